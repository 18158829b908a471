-- Steps, cuts and joins over the table with logs.
use Rattle.std.proofs.Common.{◌≡◌, ◌≢◌, ◌⊎◌, inl, inr, ⊎_elim, ℕ, zero, suc, ◌<◌, ◌≤◌, List, [], ◌∷◌, ◌++◌, map, length, Option, None, set, length-set, length-append, true, false, refl, sym, ap, ◌∙◌, subst, arith, Some}
use Rattle.std.proofs.lemmas.List.{map-set, append-nil, map-append}
use Rattle.std.specs.Prelude.{slice_index}
use mathlib.Core.Option.{some, some-ne-none, some-injective}
use mathlib.Core.List.{IsPrefix}
use lib.ListN.{get_elem?}
use Rattle.atomic_table.specs.Table.{State as Table, Splits, Joins, keeps, stepped}
use Rattle.atomic_table.proofs.Lists.{at_set, at_map, at_longer, set_else}
use Rattle.cpu_words.specs.Types.{Settings, Hear, Done}
use Rattle.protocol.specs.Common.{State, opening, empty_run}
use Rattle.cpu_words.specs.Common.{LogItem, Teller, Logged, EndedSeat, AreStillThere, View, Keeper, Cpu, Reference, Note, Spent, Shown, Sits, Ruled, GoesOn, did, log_of_events, Moves, SplitsOn, JoinsOn, without_logs, part, untold, IsStanding, who, AreBy, IsSeatOf, AreByOwn, HasComeIf, ListGoesOn, spent_seat, LoggedRuled, KnownLogGrows, heard_from, HasNone, is_border, is_hear, CpuView}
use Rattle.cpu_words.specs.Logs
use Rattle.cpu_words.proofs.shown.Showing.{was_there, at_end}
use Rattle.cpu_words.proofs.logs.Runs.{by_seat, part_append, part_own, part_other, events_of_seat}
use Rattle.cpu_words.proofs.logs.Told.{HearsWith, deaf_with, hear_with, heard_own, heard_other, heard_none, sections_more, sections_whole, AreToldPast, come_more, come_seats, told_more, plain_of_end, plain_from, plain_past, heard_past}
use Rattle.cpu_words.proofs.shown.Seeing.{prefix_on}

pub at_within : (l : List Logged) (i : ℕ) (a : Logged) → get_elem? l i ≡ some a → i < length l
at_within [] i a e = absurd (some-ne-none a (sym e))
at_within (x ∷ xs) zero a e = omega arith
at_within (x ∷ xs) (suc i) a e = let h = at_within xs i a e in omega arith

-- Whose the seats are

seat_of_more : (seat next : ℕ → ℕ) (n more i : ℕ) (m : Logs.Maker) → n ≤ more → ((c : ℕ) → c < n → next c ≡ seat c) → IsSeatOf seat n i m → IsSeatOf next more i m
seat_of_more seat next n more i Logs.the_keeper le same is = is
seat_of_more seat next n more i (Logs.the_cpu c) le same is = (is.0 ∙ sym (same c is.1), let lt = is.1 in omega arith)
seat_of_more seat next n more i Logs.another le same is = tt

by_own_more : (seat next : ℕ → ℕ) (n more : ℕ) (acts : List (ℕ × LogItem)) → n ≤ more → ((c : ℕ) → c < n → next c ≡ seat c) → AreByOwn seat n acts → AreByOwn next more acts
by_own_more seat next n more [] le same are = tt
by_own_more seat next n more (a ∷ rest) le same are = (seat_of_more seat next n more a.0 (Logs.maker a.1.event) le same are.0, by_own_more seat next n more rest le same are.1)

by_own_append : (seat : ℕ → ℕ) (n : ℕ) (a b : List (ℕ × LogItem)) → AreByOwn seat n a → AreByOwn seat n b → AreByOwn seat n (a ++ b)
by_own_append seat n [] b first second = second
by_own_append seat n (x ∷ rest) b first second = (first.0, by_own_append seat n rest b first.1 second)

by_own_seat : (seat : ℕ → ℕ) (n i : ℕ) (m : Logs.Maker) (ds : List LogItem) → IsSeatOf seat n i m → AreBy m ds → AreByOwn seat n (by_seat i ds)
by_own_seat seat n i m [] is all = tt
by_own_seat seat n i m (d ∷ ds) is all = (subst (IsSeatOf seat n i) (sym all.0) is, by_own_seat seat n i m ds is all.1)

-- the seat of a view is its own
own_seat : (g : State) (seat : ℕ → ℕ) (i : ℕ) (v : View) → Sits seat i v → Shown g v → IsSeatOf seat g.seated i (who v)
own_seat g seat i (Keeper k) sits shown = sits
own_seat g seat i (Cpu x) sits shown = (sits, shown.seated)
own_seat g seat i v sits shown = tt

-- The keeper's seat is the first

abbrev pub IsKeeper : View → Type 0
IsKeeper (Keeper k) = Unit {0}
IsKeeper (Cpu x) = ⊥
IsKeeper (Reference v) = ⊥
IsKeeper (Note h) = ⊥
IsKeeper Spent = ⊥

keeper_sits : (seat : ℕ → ℕ) (i : ℕ) (v : View) → IsKeeper v → Sits seat i v → i ≡ 0
keeper_sits seat i (Keeper k) is sits = sits
keeper_sits seat i v is sits = absurd is

-- what a seat that is cut off may have heard: of the keeper's log as much as the other seat has heard, and all of it if that is the
-- keeper's
abbrev pub MayTell : Logged → List LogItem → List LogItem → Type 0
MayTell l ds known_log = (all : List LogItem) → IsPrefix l.known_log all → (IsKeeper l.view → l.log ++ ds ≡ all) → IsPrefix known_log all

-- who may be named as the teller of what is cut off: one who has come so far, after any events, where the seat did this
abbrev pub MayName : Logged → List LogItem → Option Teller → Type 0
MayName l ds h = (g : State) (seat : ℕ → ℕ) (i : ℕ) (acts : List (ℕ × LogItem)) → Sits seat i l.view → Shown g l.view → l.log ++ ds ≡ part i acts → HasComeIf seat g.seated acts h

-- what the list says of the seat j
record FitsIn (seat : ℕ → ℕ) (n : ℕ) (acts : List (ℕ × LogItem)) (j : ℕ) (u : Logged) : Type 0 where
  logs : IsStanding u.view → u.log ≡ part j acts
  known : Logs.Knows u (part 0 acts)
  tellers : HasComeIf seat n acts u.teller
  lists : IsPrefix u.list acts
  sections : IsStanding u.view → Logs.HasItsSections j u
  heard : IsStanding u.view → Logs.HasHeardAll j u acts

-- one seat is written
pub each_of_set : (P : ℕ → Logged → Type 0) (l : List Logged) (i : ℕ) (a : Logged) → P i a → ((j : ℕ) (u : Logged) → j ≢ i → get_elem? l j ≡ some u → P j u)
    → (j : ℕ) (u : Logged) → get_elem? (set l i a) j ≡ some u → P j u
each_of_set P l i a here others j u there = ⊎_elim
    (λ (x : (j ≡ i) × (a ≡ u)). subst (λ (y : ℕ × Logged). P y.0 y.1) (λ k. (sym x.0 k, x.1 k)) here)
    (λ (x : (j ≢ i) × (get_elem? l j ≡ some u)). others j u x.0 x.1)
    (at_set l i j a u there)

-- what a run that goes on with log items of the seat id keeps
record Went (z : Settings) (s : Table ℕ Logged) (r : LoggedRuled z s) (id : ℕ) (log its ds : List LogItem) (t : Table ℕ View) (goes : GoesOn z (without_logs s) r.run ds t) : Type 0 where
  acts : List (ℕ × LogItem)
  are : Logs.events_of acts ≡ log_of_events z goes.ruled.reached.events
  owners : AreByOwn goes.ruled.seat goes.ruled.g.seated acts
  mine : log ++ its ≡ part id acts
  stay : (j : ℕ) (u : Logged) → j ≢ id → get_elem? s.views j ≡ some u → FitsIn goes.ruled.seat goes.ruled.g.seated acts j u
  unseated : (j : ℕ) → length s.views ≤ j → part j acts ≡ []
  known : (d : List LogItem) → IsPrefix d (part 0 r.acts) → IsPrefix d (part 0 acts)
  longer : acts ≡ r.acts ++ by_seat id its
  own_heard : (l m : Logged) → get_elem? s.views id ≡ some l → IsStanding l.view → IsPrefix l.known_log m.known_log → HearsWith id r.acts its m.known_log → Logs.HasHeardAll id m acts
  listed : (d : List (ℕ × LogItem)) → IsPrefix d r.acts → IsPrefix d acts
  told : Logs.AreToldBefore goes.ruled.seat goes.ruled.g.seated acts
  tellers : (h : Option Teller) → HasComeIf r.run.seat r.run.g.seated r.acts h → HasComeIf goes.ruled.seat goes.ruled.g.seated acts h
  -- one who has come so far by what was done now
  newer : (h : Option Teller) → HasComeIf r.run.seat r.run.g.seated acts h → HasComeIf goes.ruled.seat goes.ruled.g.seated acts h

-- the items of its log are the events, and where it heard a note they say who told that
went : (z : Settings) (s : Table ℕ Logged) (r : LoggedRuled z s) (id : ℕ) (l : Logged) (its ds : List LogItem) (t : Table ℕ View) (goes : GoesOn z (without_logs s) r.run ds t)
    → get_elem? s.views id ≡ some l → IsStanding l.view → AreBy (who l.view) its → map untold its ≡ ds → AreToldPast r.run.seat r.run.g.seated r.acts (by_seat id its)
    → Went z s r id l.log its ds t goes
went z s r id l its ds t goes at stands by events told =
    let sits = r.run.shows.fits id l.view (at_map (λ (l : Logged). l.view) s.views id l at) in
    let own : IsSeatOf goes.ruled.seat goes.ruled.g.seated id (who l.view) =
    seat_of_more r.run.seat goes.ruled.seat r.run.g.seated goes.ruled.g.seated id (who l.view) goes.seated goes.seats (own_seat r.run.g r.run.seat id l.view sits.0 sits.1) in
    let longer : (j : ℕ) → j ≢ id → part j (r.acts ++ by_seat id its) ≡ part j r.acts =
    λ j ne. part_append j r.acts (by_seat id its) ∙ (ap (λ (l : List LogItem). part j r.acts ++ l) (part_other id j its ne) ∙ append-nil (part j r.acts)) in
    let known_on : (d : List LogItem) → IsPrefix d (part 0 r.acts) → IsPrefix d (part 0 (r.acts ++ by_seat id its)) = λ d pre.
    subst (IsPrefix d) (sym (part_append 0 r.acts (by_seat id its))) (prefix_on d (part 0 r.acts) (part 0 (by_seat id its)) pre) in
    record {
      acts = r.acts ++ by_seat id its;
      are = map-append (λ (a : ℕ × LogItem). untold a.1) r.acts (by_seat id its) ∙ ((λ k. r.are k ++ (events_of_seat id its ∙ events) k) ∙ sym goes.goes_on);
      owners = by_own_append goes.ruled.seat goes.ruled.g.seated r.acts (by_seat id its)
          (by_own_more r.run.seat goes.ruled.seat r.run.g.seated goes.ruled.g.seated r.acts goes.seated goes.seats r.owners)
          (by_own_seat goes.ruled.seat goes.ruled.g.seated id (who l.view) its own by);
      mine = (λ k. r.logs id l at stands k ++ sym (part_own id its) k) ∙ sym (part_append id r.acts (by_seat id its));
      stay = λ j u ne there. record {
        logs = λ standing. r.logs j u there standing ∙ sym (longer j ne);
        known = (known_on u.known_log (r.known j u there).0, known_on u.noted_log (r.known j u there).1);
        tellers = come_more r.run.seat goes.ruled.seat r.run.g.seated goes.ruled.g.seated r.acts (by_seat id its) u.teller goes.seated goes.seats (r.tellers j u there);
        lists = prefix_on u.list r.acts (by_seat id its) (r.lists j u there);
        sections = r.sections j u there;
        heard = λ standing. heard_other id j u r.acts its ne (r.heard j u there standing);
      };
      unseated = λ j le. longer j (λ same. let lt = at_within s.views id l at in omega (arith, lt, same, le)) ∙ r.unseated j le;
      known = known_on;
      longer = refl;
      own_heard = λ l m at stands up hears. heard_own id l m r.acts its (r.heard id l at stands) up hears;
      listed = λ d pre. prefix_on d r.acts (by_seat id its) pre;
      told = told_more r.run.seat goes.ruled.seat r.run.g.seated goes.ruled.g.seated r.acts (by_seat id its) goes.seated goes.seats r.told told;
      tellers = λ h come. come_more r.run.seat goes.ruled.seat r.run.g.seated goes.ruled.g.seated r.acts (by_seat id its) h goes.seated goes.seats come;
      newer = λ h come. come_seats r.run.seat goes.ruled.seat r.run.g.seated goes.ruled.g.seated (r.acts ++ by_seat id its) h goes.seated goes.seats come;
    }

-- the events of a run, and so the items without a note
plain : (z : Settings) (s : Table ℕ View) (r : Ruled z s) (ds : List LogItem) (t : Table ℕ View) → GoesOn z s r ds t → map untold ds ≡ ds
plain z s r ds t goes = plain_of_end (log_of_events z r.reached.events) ds
    (subst (λ (l : List LogItem). map untold l ≡ l) goes.goes_on (plain_from (empty_run (opening z)) goes.ruled.reached.events))

went_plainly : (z : Settings) (s : Table ℕ Logged) (r : LoggedRuled z s) (id : ℕ) (l : Logged) (ds : List LogItem) (t : Table ℕ View) (goes : GoesOn z (without_logs s) r.run ds t)
    → get_elem? s.views id ≡ some l → IsStanding l.view → AreBy (who l.view) ds → Went z s r id l.log ds ds t goes
went_plainly z s r id l ds t goes at stands by =
    let none = plain z (without_logs s) r.run ds t goes in
    went z s r id l ds ds t goes at stands by none (plain_past r.run.seat r.run.g.seated id ds r.acts none)

-- the rule holds on where each seat fits
ruled_on : (z : Settings) (s t : Table ℕ Logged) (r : LoggedRuled z s) (id : ℕ) (log its ds : List LogItem) (goes : GoesOn z (without_logs s) r.run ds (without_logs t))
    → (on : Went z s r id log its ds (without_logs t) goes) → ((j : ℕ) (u : Logged) → get_elem? t.views j ≡ some u → FitsIn goes.ruled.seat goes.ruled.g.seated on.acts j u)
    → length s.views ≤ length t.views → ((j : ℕ) (u : Logged) → get_elem? t.views j ≡ some u → AreStillThere t.views u.ends) → LoggedRuled z t
ruled_on z s t r id log its ds goes on each longer ends = record {
  run = goes.ruled;
  acts = on.acts;
  are = on.are;
  owners = on.owners;
  logs = λ j u there. (each j u there).logs;
  unseated = λ j le. on.unseated j (omega (arith, longer, le));
  known = λ j u there. (each j u there).known;
  told = on.told;
  tellers = λ j u there. (each j u there).tellers;
  lists = λ j u there. (each j u there).lists;
  sections = λ j u there. (each j u there).sections;
  heard = λ j u there. (each j u there).heard;
  ends = ends;
}

-- Seats that have ended stay as they were, as one moves that hasn't

still_set : (views : List Logged) (i : ℕ) (l m : Logged) (e : EndedSeat) → get_elem? views i ≡ some l → l.ended ≡ false → Logs.IsStillThere views e → Logs.IsStillThere (set views i m) e
still_set views i l m e at going had = record {
  place = had.place;
  seat = had.seat;
  at = set_else views i had.place m (λ same.
      let is : l ≡ had.seat = some-injective l had.seat (sym at ∙ (ap (get_elem? views) (sym same) ∙ had.at)) in
      let q : false ≡ true = sym going ∙ (ap (λ (x : Logged). x.ended) is ∙ had.ended) in cc) ∙ had.at;
  ended = had.ended;
  is = had.is;
}

-- what each seat of the list took over is still there
abbrev AreAllThere : List Logged → Type 0
AreAllThere views = (j : ℕ) (u : Logged) → get_elem? views j ≡ some u → AreStillThere views u.ends

ends_set : (views : List Logged) (i : ℕ) (l m : Logged) → get_elem? views i ≡ some l → l.ended ≡ false → AreAllThere views → AreStillThere (set views i m) m.ends → AreAllThere (set views i m)
ends_set views i l m at going had mine =
    each_of_set (λ j u. AreStillThere (set views i m) u.ends) views i m mine (λ j u ne there n e is. still_set views i l m e at going (had j u there n e is))

-- it took over no other by that
ends_same : (views : List Logged) (i : ℕ) (l m : Logged) → get_elem? views i ≡ some l → l.ended ≡ false → AreAllThere views → m.ends ≡ l.ends → AreAllThere (set views i m)
ends_same views i l m at going had same = ends_set views i l m at going had
    (subst (λ (ends : List EndedSeat). AreStillThere (set views i m) ends) (sym same) (λ n e is. still_set views i l m e at going (had i l at n e is)))

none_there : (views : List Logged) (ends : List EndedSeat) → ends ≡ [] → AreStillThere views ends
none_there views ends none n e is = absurd (some-ne-none e (sym is ∙ ap (λ (l : List EndedSeat). get_elem? l n) none))

still_longer : (views more : List Logged) (e : EndedSeat) → Logs.IsStillThere views e → Logs.IsStillThere (views ++ more) e
still_longer views more e had = record { place = had.place; seat = had.seat; at = at_longer views more had.place had.seat had.at; ended = had.ended; is = had.is }

ends_longer : (views : List Logged) (b : Logged) → b.ends ≡ [] → AreAllThere views → AreAllThere (views ++ b ∷ [])
ends_longer views b none had j u there = ⊎_elim
    (λ (was : get_elem? views j ≡ some u). λ n e is. still_longer views (b ∷ []) e (had j u was n e is))
    (λ (x : (j ≡ length views) × (b ≡ u)). none_there (views ++ b ∷ []) u.ends (sym (ap (λ (l : Logged). l.ends) x.1) ∙ none))
    (at_end views b u j there)

-- A seat moves

-- the seat's view becomes w, its log goes on, it has heard d, and it knows the list `all`
abbrev moved_to : Logged → View → List LogItem → List LogItem → List (ℕ × LogItem) → Logged
moved_to l w ds d all = record l { view = w; log = l.log ++ ds; known_log = d; list = all }

-- what the seat did is in the list, and what it does now
own_part : (z : Settings) (s : Table ℕ Logged) (r : LoggedRuled z s) (id : ℕ) (l : Logged) (its : List LogItem) → get_elem? s.views id ≡ some l → IsStanding l.view
    → part id (r.acts ++ by_seat id its) ≡ l.log ++ its
own_part z s r id l its at stands = part_append id r.acts (by_seat id its) ∙ (λ k. sym (r.logs id l at stands) k ++ part_own id its k)

-- the list that the seat knows then goes on, with all that the seat did
list_goes_on : (z : Settings) (s : Table ℕ Logged) (r : LoggedRuled z s) (id : ℕ) (l : Logged) (its : List LogItem) → get_elem? s.views id ≡ some l → IsStanding l.view
    → ListGoesOn l.list (l.log ++ its) (r.acts ++ by_seat id its)
list_goes_on z s r id l its at stands = record {
  grows = prefix_on l.list r.acts (by_seat id its) (r.lists id l at);
  seat = id;
  own = own_part z s r id l its at stands;
}

-- the rule holds on, for any prefix of the keeper's log that the seat has heard then; where it heard now, that is all of it
logged_goes : (z : Settings) (l : Logged) (i : ℕ) (n : ℕ) (its ds : List LogItem) (w : View) (s : Table ℕ Logged) (r : LoggedRuled z s) (id : ℕ) → get_elem? s.views id ≡ some l → IsStanding l.view
    → l.ended ≡ false → AreBy (who l.view) its
    → map untold its ≡ ds → AreToldPast r.run.seat r.run.g.seated r.acts (by_seat id its)
    → GoesOn z (without_logs s) r.run ds (stepped (without_logs s) i n id [] w keeps) → (d : List LogItem) → IsPrefix d (part 0 r.acts) → IsPrefix l.known_log d → HearsWith id r.acts its d
    → LoggedRuled z (stepped s i n id [] (moved_to l w its d (r.acts ++ by_seat id its)) keeps)
logged_goes z l i n its ds w s r id at stands going by events told goes_without_logs d known up hears =
    let q = without_logs s in
    let m : Logged = moved_to l w its d (r.acts ++ by_seat id its) in
    let t : Table ℕ Logged = stepped s i n id [] m keeps in
    let same : stepped q i n id [] w keeps ≡ without_logs t = λ k. record { words = set s.words i n; homes = s.homes; views = sym (map-set (λ (x : Logged). x.view) s.views id m) k } in
    let goes : GoesOn z q r.run ds (without_logs t) = subst (GoesOn z q r.run ds) same goes_without_logs in
    let on = went z s r id l its ds (without_logs t) goes at stands by events told in
    ruled_on z s t r id l.log its ds goes on (each_of_set (FitsIn goes.ruled.seat goes.ruled.g.seated on.acts) s.views id m (record {
      logs = λ _. on.mine;
      known = (on.known d known, on.known l.noted_log (r.known id l at).1);
      tellers = on.tellers l.teller (r.tellers id l at);
      lists = ([], append-nil (r.acts ++ by_seat id its) ∙ sym on.longer);
      sections = λ _. sections_whole id m (own_part z s r id l its at stands);
      heard = λ _. on.own_heard l m at stands up hears;
    }) on.stay) (omega (arith, length-set s.views id m)) (ends_same s.views id l m at going r.ends refl)

goes_plainly : (z : Settings) (l : Logged) (i : ℕ) (n : ℕ) (ds : List LogItem) (w : View) (s : Table ℕ Logged) (r : LoggedRuled z s) (id : ℕ) → get_elem? s.views id ≡ some l → IsStanding l.view
    → l.ended ≡ false → AreBy (who l.view) ds → HasNone is_hear ds
    → GoesOn z (without_logs s) r.run ds (stepped (without_logs s) i n id [] w keeps)
    → LoggedRuled z (stepped s i n id [] (moved_to l w ds l.known_log (r.acts ++ by_seat id ds)) keeps)
goes_plainly z l i n ds w s r id at stands going by quiet goes =
    let none = plain z (without_logs s) r.run ds (stepped (without_logs s) i n id [] w keeps) goes in
    logged_goes z l i n ds ds w s r id at stands going by none (plain_past r.run.seat r.run.g.seated id ds r.acts none) goes l.known_log (r.known id l at).0 ([], append-nil l.known_log)
    (deaf_with id r.acts ds l.known_log quiet)

-- what Moves says, of the table with logs
abbrev pub LoggedMoves : Settings → Logged → ℕ → (ℕ → ℕ) → (ℕ → List LogItem) → (ℕ → View → Type 0) → Type 0
LoggedMoves z l i f ds tells = (s : Table ℕ Logged) → LoggedRuled z s → (id : ℕ) → get_elem? s.views id ≡ some l → slice_index s.words i < 18446744073709551616
    → (w : View) × (all : List (ℕ × LogItem)) × LoggedRuled z (stepped s i (f (slice_index s.words i)) id [] (record l { view = w; log = l.log ++ ds (slice_index s.words i); list = all }) keeps)
    × tells (slice_index s.words i) w × ListGoesOn l.list (l.log ++ ds (slice_index s.words i)) all

pub logged_moves : (z : Settings) (l : Logged) (i : ℕ) (f : ℕ → ℕ) (ds : ℕ → List LogItem) (tells : ℕ → View → Type 0) → IsStanding l.view → l.ended ≡ false → ((n : ℕ) → AreBy (who l.view) (ds n))
    → ((n : ℕ) → HasNone is_hear (ds n)) → Moves z l.view i f ds tells → LoggedMoves z l i f ds tells
logged_moves z l i f ds tells stands going by quiet moves s r id at fits =
    let word = slice_index s.words i in
    let done = moves (without_logs s) r.run id (at_map (λ (x : Logged). x.view) s.views id l at) fits in (
      done.0,
      r.acts ++ by_seat id (ds word),
      goes_plainly z l i (f word) (ds word) done.0 s r id at stands going (by word) (quiet word) done.1,
      done.2,
      list_goes_on z s r id l (ds word) at stands,
    )

-- the same of a load that hears: what the seat has heard then is all that the keeper did, and its log says who told the note
abbrev pub LoggedHears : Settings → Logged → ℕ → (ℕ → ℕ) → Option ℕ → (ℕ → View → Type 0) → Type 0
LoggedHears z l i f by tells = (s : Table ℕ Logged) (r : LoggedRuled z s) (id : ℕ) → get_elem? s.views id ≡ some l → slice_index s.words i < 18446744073709551616
    → (w : View) × (d : List LogItem) × (all : List (ℕ × LogItem))
    × LoggedRuled z (stepped s i (f (slice_index s.words i)) id [] (record l { view = w; log = l.log ++ heard_from by l.teller; known_log = d; list = all }) keeps)
    × tells (slice_index s.words i) w × KnownLogGrows l.known_log l.noted_log d × (d ≡ part 0 r.acts) × ListGoesOn l.list (l.log ++ heard_from by l.teller) all

pub logged_hears : (z : Settings) (l : Logged) (i : ℕ) (f : ℕ → ℕ) (by : Option ℕ) (tells : ℕ → View → Type 0) → IsStanding l.view → l.ended ≡ false → Logs.maker_of_note by ≡ who l.view
    → Moves z l.view i f (λ _. did (Hear by) Done) tells → LoggedHears z l i f by tells
logged_hears z l i f by tells stands going own moves s r id at fits =
    let done = moves (without_logs s) r.run id (at_map (λ (x : Logged). x.view) s.views id l at) fits in
    let all = part 0 r.acts in (
      done.0,
      all,
      r.acts ++ by_seat id (heard_from by l.teller),
      logged_goes z l i (f (slice_index s.words i)) (heard_from by l.teller) (did (Hear by) Done) done.0 s r id at stands going (own, tt) refl
          (heard_past r.run.seat r.run.g.seated id by l.teller r.acts (r.tellers id l at)) done.1 all ([], append-nil all) (r.known id l at).0 (hear_with id r.acts by l.teller),
      done.2,
      r.known id l at,
      refl,
      list_goes_on z s r id l (heard_from by l.teller) at stands,
    )

-- and of the keeper's, which knows its own log
pub logged_heard : (z : Settings) (l : Logged) (i : ℕ) (f : ℕ → ℕ) (tells : ℕ → View → Type 0) → IsStanding l.view → l.ended ≡ false → Logs.the_keeper ≡ who l.view → Moves z l.view i f (λ _. did (Hear None) Done) tells
    → LoggedMoves z l i f (λ _. heard_from None l.teller) tells
logged_heard z l i f tells stands going own moves s r id at fits =
    let done = moves (without_logs s) r.run id (at_map (λ (x : Logged). x.view) s.views id l at) fits in (
      done.0,
      r.acts ++ by_seat id (heard_from None l.teller),
      logged_goes z l i (f (slice_index s.words i)) (heard_from None l.teller) (did (Hear None) Done) done.0 s r id at stands going (own, tt) refl
          (heard_past r.run.seat r.run.g.seated id None l.teller r.acts (r.tellers id l at)) done.1 l.known_log (r.known id l at).0 ([], append-nil l.known_log)
          (deaf_with id r.acts (heard_from None l.teller) l.known_log (refl, tt)),
      done.2,
      list_goes_on z s r id l (heard_from None l.teller) at stands,
    )

-- A seat is cut in two, or takes in another

pub logged_splits : (z : Settings) (i : ℕ) (l : Logged) (left right : View) (ds known_log : List LogItem) (teller : Option Teller) → IsStanding l.view → l.ended ≡ false → AreBy (who l.view) ds → HasNone is_border ds
    → HasNone is_hear ds → MayTell l ds known_log → MayName l ds teller → SplitsOn z i l.view left right ds
    → Splits (LoggedRuled z) i l (record l { view = left; log = l.log ++ ds }) (record { view = right; log = []; known_log = known_log; noted_log = []; teller = teller; list = []; ends = []; ended = false })
logged_splits z i v left right ds known_log teller stands going by apart quiet may named splits s r at =
    let q = without_logs s in
    let here : get_elem? q.views i ≡ some v.view = at_map (λ (l : Logged). l.view) s.views i v at in
    let l : Logged = record v { view = left; log = v.log ++ ds } in
    let b : Logged = record { view = right; log = []; known_log = known_log; noted_log = []; teller = teller; list = []; ends = []; ended = false } in
    let t : Table ℕ Logged = record { words = s.words; homes = s.homes; views = set s.views i l ++ b ∷ [] } in
    let views : set q.views i left ++ right ∷ [] ≡ (without_logs t).views =
    sym (map-append (λ (x : Logged). x.view) (set s.views i l) (b ∷ []) ∙ ap (λ (a : List View). a ++ right ∷ []) (map-set (λ (x : Logged). x.view) s.views i l)) in
    let goes : GoesOn z q r.run ds (without_logs t) = subst (λ (vs : List View). GoesOn z q r.run ds (record { words = s.words; homes = s.homes; views = vs })) views (splits q r.run here) in
    let on = went_plainly z s r i v ds (without_logs t) goes at stands by in
    let size : length (set s.views i l) ≡ length s.views = length-set s.views i l in
    let its = r.run.shows.fits i v.view here in
    let whole : IsKeeper v.view → v.log ++ ds ≡ part 0 on.acts = λ keeper. on.mine ∙ ap (λ (m : ℕ). part m on.acts) (keeper_sits r.run.seat i v.view keeper its.0) in
    let fits = FitsIn goes.ruled.seat goes.ruled.g.seated on.acts in
    let mine : fits i l = record {
      logs = λ _. on.mine;
      known = (on.known v.known_log (r.known i v at).0, on.known v.noted_log (r.known i v at).1);
      tellers = on.tellers v.teller (r.tellers i v at);
      lists = on.listed v.list (r.lists i v at);
      sections = λ _. sections_more i v l ds refl refl apart (r.sections i v at stands);
      heard = λ _. on.own_heard v l at stands ([], append-nil v.known_log) (deaf_with i r.acts ds v.known_log quiet);
    } in
    let new : (j : ℕ) → j ≡ length (set s.views i l) → fits j b = λ j end.
    let none = on.unseated j (omega (arith, end, size)) in record {
      logs = λ _. sym none;
      known = ((may (part 0 on.acts) (on.known v.known_log (r.known i v at).0) whole), (part 0 on.acts, refl));
      tellers = on.newer teller (named r.run.g r.run.seat i on.acts its.0 its.1 on.mine);
      lists = (on.acts, refl);
      sections = λ _. sections_whole j b refl;
      heard = λ _. heard_none j b on.acts none;
    } in
    ruled_on z s t r i v.log ds ds goes on (λ j u there. ⊎_elim
    (λ (was : get_elem? (set s.views i l) j ≡ some u). each_of_set fits s.views i l mine on.stay j u was)
    (λ (x : (j ≡ length (set s.views i l)) × (b ≡ u)). subst (fits j) x.1 (new j x.0))
    (at_end (set s.views i l) b u j there))
    (omega (arith, length-append (set s.views i l) (b ∷ []), size))
    (ends_longer (set s.views i l) b refl (ends_same s.views i v l at going r.ends refl))

-- what lies beside the view after is what lay there, or what the other has heard and who told it
abbrev pub LiesBeside : Logged → Logged → List LogItem → Option Teller → Type 0
LiesBeside l m noted_log teller = ((noted_log ≡ l.noted_log) × (teller ≡ l.teller)) ⊎ ((noted_log ≡ m.known_log) × (teller ≡ m.teller))

pub logged_joins : (z : Settings) (i : ℕ) (l : Logged) (o : ℕ) (m : Logged) (both : View) (ds noted_log : List LogItem) (teller : Option Teller) → IsStanding l.view → l.ended ≡ false → m.ended ≡ false
    → AreBy (who l.view) ds → HasNone is_border ds → HasNone is_hear ds → LiesBeside l m noted_log teller → JoinsOn z i l.view o m.view both Spent ds
    → Joins (LoggedRuled z) i l o m (record l { view = both; log = l.log ++ ds; noted_log = noted_log; teller = teller }) spent_seat
logged_joins z i v o w both ds noted_log teller stands going other by borders quiet lies joins s r at apart there =
    let q = without_logs s in
    let f = λ (x : Logged). x.view in
    let here : get_elem? q.views i ≡ some v.view = at_map f s.views i v at in
    let l : Logged = record v { view = both; log = v.log ++ ds; noted_log = noted_log; teller = teller } in
    let b : Logged = spent_seat in
    let once : map f (set s.views i l) ≡ set q.views i both = map-set f s.views i l in
    let also : get_elem? (set q.views i both) o ≡ some w.view = subst (λ (vs : List View). get_elem? vs o ≡ some w.view) once (at_map f (set s.views i l) o w there) in
    let t : Table ℕ Logged = record { words = s.words; homes = s.homes; views = set (set s.views i l) o b } in
    let views : set (set q.views i both) o Spent ≡ (without_logs t).views = sym (map-set f (set s.views i l) o b ∙ ap (λ (a : List View). set a o Spent) once) in
    let goes : GoesOn z q r.run ds (without_logs t) = subst (λ (vs : List View). GoesOn z q r.run ds (record { words = s.words; homes = s.homes; views = vs })) views (joins q r.run here apart also) in
    let on = went_plainly z s r i v ds (without_logs t) goes at stands by in
    let mine = r.known i v at in
    let was = was_there s.views i o l w apart there in
    let beside : IsPrefix noted_log (part 0 r.acts) = ⊎_elim
    (λ (x : (noted_log ≡ v.noted_log) × (teller ≡ v.teller)). subst (λ (d : List LogItem). IsPrefix d (part 0 r.acts)) (sym x.0) mine.1)
    (λ (x : (noted_log ≡ w.known_log) × (teller ≡ w.teller)). subst (λ (d : List LogItem). IsPrefix d (part 0 r.acts)) (sym x.0) (r.known o w was).0)
    lies in
    let come : HasComeIf r.run.seat r.run.g.seated r.acts teller = ⊎_elim
    (λ (x : (noted_log ≡ v.noted_log) × (teller ≡ v.teller)). subst (HasComeIf r.run.seat r.run.g.seated r.acts) (sym x.1) (r.tellers i v at))
    (λ (x : (noted_log ≡ w.known_log) × (teller ≡ w.teller)). subst (HasComeIf r.run.seat r.run.g.seated r.acts) (sym x.1) (r.tellers o w was))
    lies in
    let fits = FitsIn goes.ruled.seat goes.ruled.g.seated on.acts in
    let own : fits i l = record {
      logs = λ _. on.mine;
      known = (on.known v.known_log mine.0, on.known noted_log beside);
      tellers = on.tellers teller come;
      lists = on.listed v.list (r.lists i v at);
      sections = λ _. sections_more i v l ds refl refl borders (r.sections i v at stands);
      heard = λ _. on.own_heard v l at stands ([], append-nil v.known_log) (deaf_with i r.acts ds v.known_log quiet);
    } in
    let spent : fits o b = record {
      logs = λ standing. absurd standing;
      known = ((part 0 on.acts, refl), (part 0 on.acts, refl));
      tellers = tt;
      lists = (on.acts, refl);
      sections = λ standing. absurd standing;
      heard = λ standing. absurd standing;
    } in
    ruled_on z s t r i v.log ds ds goes on (each_of_set fits (set s.views i l) o b spent (λ j u _ there. each_of_set fits s.views i l own on.stay j u there))
    (omega (arith, length-set (set s.views i l) o b, length-set s.views i l))
    (ends_set (set s.views i l) o w b there other (ends_same s.views i v l at going r.ends refl) (none_there (set (set s.views i l) o b) b.ends refl))

-- nothing is done: the log stays
pub logged_joins_same : (z : Settings) (i : ℕ) (l : Logged) (o : ℕ) (m : Logged) (both : View) (noted_log : List LogItem) (teller : Option Teller) → IsStanding l.view → l.ended ≡ false → m.ended ≡ false
    → LiesBeside l m noted_log teller
    → JoinsOn z i l.view o m.view both Spent []
    → Joins (LoggedRuled z) i l o m (record l { view = both; noted_log = noted_log; teller = teller }) spent_seat
logged_joins_same z i v o w both noted_log teller stands going other lies joins =
    subst (λ (log : List LogItem). Joins (LoggedRuled z) i v o w (record v { view = both; log = log; noted_log = noted_log; teller = teller }) spent_seat) (append-nil v.log)
    (logged_joins z i v o w both [] noted_log teller stands going other tt tt tt lies joins)

-- Cuts and joins of seats: what is told of the views holds over the table with logs, and what the log is then.

-- what a seat that is cut off has heard: nothing; what the other has; or all that the keeper did

pub tells_nothing : (l : Logged) (ds : List LogItem) → MayTell l ds []
tells_nothing l ds all known whole = (all, refl)

pub tells_known : (l : Logged) (ds : List LogItem) → MayTell l ds l.known_log
tells_known l ds all known whole = known

pub tells_whole : (l : Logged) (ds : List LogItem) → IsKeeper l.view → MayTell l ds (l.log ++ ds)
tells_whole l ds keeper all known whole = ([], append-nil (l.log ++ ds) ∙ whole keeper)

-- who told it: nobody, or the CPU whose note it is

pub names_nobody : (l : Logged) (ds : List LogItem) → MayName l ds None
names_nobody l ds g seat i acts sits shown whole = tt

pub names_cpu : (l : Logged) (x : CpuView) (d : LogItem) → MayName (record l { view = Cpu x }) (d ∷ []) (Some (Logs.teller_of x l.log))
names_cpu l x d g seat i acts sits shown whole = record {
  seated = shown.seated;
  events = let size : length (l.log ++ d ∷ []) ≡ length (part (seat x.id) acts) =
      ap (λ (ds : List LogItem). length ds) (whole ∙ ap (λ (n : ℕ). part n acts) sits) in omega (arith, size, length-append l.log (d ∷ []));
}

pub seat_cut : (z : Settings) (i : ℕ) (l : Logged) (v : View) (left right : View → View) (does : View → List LogItem) (tells : Logged → List LogItem) (by : Logged → Option Teller) (ds : List LogItem)
    → l ≡ record l { view = v } → l.ended ≡ false → IsStanding v → AreBy (who v) ds → HasNone is_border ds → HasNone is_hear ds → does v ≡ ds → MayTell (record l { view = v }) ds (tells (record l { view = v }))
    → MayName (record l { view = v }) ds (by (record l { view = v })) → SplitsOn z i v (left v) (right v) ds
    → Splits (LoggedRuled z) i l (Logs.logged_after_split left does l) (Logs.fresh right tells by l)
seat_cut z i l v left right does tells by ds is going stands own borders quiet same may named on =
    subst (λ (m : Logged). Splits (LoggedRuled z) i m (Logs.logged_after_split left does m) (Logs.fresh right tells by m)) (sym is)
    (subst (λ (d : List LogItem). Splits (LoggedRuled z) i (record l { view = v }) (record l { view = left v; log = l.log ++ d })
    (record { view = right v; log = []; known_log = tells (record l { view = v }); noted_log = []; teller = by (record l { view = v }); list = []; ends = []; ended = false })) (sym same)
    (logged_splits z i (record l { view = v }) (left v) (right v) ds (tells (record l { view = v })) (by (record l { view = v })) stands going own borders quiet may named on))

pub seat_join : (z : Settings) (i o : ℕ) (l m : Logged) (v w : View) (both : View → View → View) (does : View → View → List LogItem) (ds : List LogItem)
    → l ≡ record l { view = v } → m ≡ record m { view = w } → l.ended ≡ false → m.ended ≡ false → IsStanding v → AreBy (who v) ds → HasNone is_border ds → HasNone is_hear ds → does v w ≡ ds → JoinsOn z i v o w (both v w) Spent ds
    → Joins (LoggedRuled z) i l o m (Logs.joined_seat both does l m) spent_seat
seat_join z i o l m v w both does ds is that going other stands by borders quiet same on =
    subst (λ (p : Logged × Logged). Joins (LoggedRuled z) i p.0 o p.1 (Logs.joined_seat both does p.0 p.1) spent_seat) (λ k. (sym is k, sym that k))
    (subst (λ (d : List LogItem). Joins (LoggedRuled z) i (record l { view = v }) o (record m { view = w }) (record l { view = both v w; log = l.log ++ d }) spent_seat) (sym same)
    (logged_joins z i (record l { view = v }) o (record m { view = w }) (both v w) ds l.noted_log l.teller stands going other by borders quiet (inl (refl, refl)) on))

pub seat_with_note : (z : Settings) (i o : ℕ) (l m : Logged) (v w : View) (both : View → View → View)
    → l ≡ record l { view = v } → m ≡ record m { view = w } → l.ended ≡ false → m.ended ≡ false → IsStanding v → JoinsOn z i v o w (both v w) Spent [] → Joins (LoggedRuled z) i l o m (Logs.logged_with_note both l m) spent_seat
seat_with_note z i o l m v w both is that going other stands on =
    subst (λ (p : Logged × Logged). Joins (LoggedRuled z) i p.0 o p.1 (Logs.logged_with_note both p.0 p.1) spent_seat) (λ k. (sym is k, sym that k))
    (logged_joins_same z i (record l { view = v }) o (record m { view = w }) (both v w) m.known_log m.teller stands going other (inr (refl, refl)) on)
