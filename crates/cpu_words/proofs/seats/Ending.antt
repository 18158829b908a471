-- A seat takes over another one, which has ended then: no view changes, and the core stays.
use Rattle.std.proofs.Common.{◌≡◌, ◌≢◌, ⊎_elim, ℕ, zero, suc, List, [], ◌∷◌, length, map, set, length-set, false, refl, sym, ap, ◌∙◌, subst, arith}
use Rattle.std.proofs.lemmas.Bool.{cases_eq}
use Rattle.std.proofs.lemmas.List.{map-set}
use mathlib.Core.Option.{some, some-injective}
use lib.ListN.{get_elem?}
use Rattle.atomic_table.specs.Table.{State as Table, Joins, Me}
use Rattle.atomic_table.proofs.Lists.{at_map, set_again, set_else, set_here}
use Rattle.cpu_words.specs.Types.{Settings}
use Rattle.cpu_words.specs.Common.{Logged, EndedSeat, View, Cpu, cpu_of, LoggedRuled, Ruled, ShowsViews, IsStanding, Knows, HasComeIf, HasItsSections, HasHeardAll, AreStillThere, IsStillThere, part, end_of, ended_seat, with_end, without_logs}
use mathlib.Core.List.{IsPrefix}
use Rattle.cpu_words.proofs.logs.Logs.{at_within, each_of_set}
use Rattle.cpu_words.proofs.shown.Showing.{was_there}

-- the seats of a table, in which i has taken over o
abbrev taken_over : Table ℕ Logged → ℕ → Logged → ℕ → Logged → List Logged
taken_over s i l o m = set (set s.views i (with_end l m)) o (ended_seat m)

-- what stood as another one took it over still does
still_over : (s : Table ℕ Logged) (i : ℕ) (l : Logged) (o : ℕ) (m : Logged) (e : EndedSeat) → get_elem? s.views i ≡ some l → o ≢ i → get_elem? s.views o ≡ some m → IsStillThere s.views e
    → IsStillThere (taken_over s i l o m) e
still_over s i l o m e at apart there had =
    let once = set s.views i (with_end l m) in
    let within = at_within s.views o m there in
    ⊎_elim
    (λ (same : had.place ≡ o).
    let is : had.seat ≡ m = some-injective had.seat m (sym had.at ∙ (ap (get_elem? s.views) same ∙ there)) in
    record {
      place = o;
      seat = ended_seat m;
      at = set_here once o (ended_seat m) (omega (arith, within, length-set s.views i (with_end l m)));
      ended = refl;
      is = sym (ap end_of is) ∙ had.is;
    })
    (λ (off : had.place ≢ o). ⊎_elim
    (λ (same : had.place ≡ i).
    let is : had.seat ≡ l = some-injective had.seat l (sym had.at ∙ (ap (get_elem? s.views) same ∙ at)) in
    record {
      place = i;
      seat = with_end l m;
      at = set_else once o i (ended_seat m) (λ e. apart (sym e)) ∙ set_here s.views i (with_end l m) (at_within s.views i l at);
      ended = sym (ap (λ (x : Logged). x.ended) is) ∙ had.ended;
      is = sym (ap end_of is) ∙ had.is;
    })
    (λ (other : had.place ≢ i). record {
      place = had.place;
      seat = had.seat;
      at = set_else once o had.place (ended_seat m) off ∙ (set_else s.views i had.place (with_end l m) other ∙ had.at);
      ended = had.ended;
      is = had.is;
    })
    (cases_eq had.place i))
    (cases_eq had.place o)

one_more_there : (views : List Logged) (x : EndedSeat) (xs : List EndedSeat) → IsStillThere views x → AreStillThere views xs → AreStillThere views (x ∷ xs)
one_more_there views x xs here rest zero e is = subst (IsStillThere views) (some-injective x e is) here
one_more_there views x xs here rest (suc n) e is = rest n e is

-- the views are as they were
same_views : (s : Table ℕ Logged) (i : ℕ) (l : Logged) (o : ℕ) (m : Logged) → get_elem? s.views i ≡ some l → get_elem? s.views o ≡ some m
    → map (λ (x : Logged). x.view) (taken_over s i l o m) ≡ map (λ (x : Logged). x.view) s.views
same_views s i l o m at there =
    let f = λ (x : Logged). x.view in
    let once : map f (set s.views i (with_end l m)) ≡ map f s.views = map-set f s.views i (with_end l m) ∙ set_again (map f s.views) i l.view (at_map f s.views i l at) in
    map-set f (set s.views i (with_end l m)) o (ended_seat m)
    ∙ (ap (λ (vs : List View). set vs o m.view) once ∙ set_again (map f s.views) o m.view (at_map f s.views o m there))

-- what is so of each seat, of its view and all that it did and knows, is so of each after
each_over : (P : ℕ → Logged → Type 0) (s : Table ℕ Logged) (i : ℕ) (l : Logged) (o : ℕ) (m : Logged) → ((j : ℕ) (u : Logged) → get_elem? s.views j ≡ some u → P j u) → P i (with_end l m)
    → P o (ended_seat m) → (j : ℕ) (u : Logged) → get_elem? (taken_over s i l o m) j ≡ some u → P j u
each_over P s i l o m had one other =
    each_of_set P (set s.views i (with_end l m)) o (ended_seat m) other (λ j u _ there. each_of_set P s.views i (with_end l m) one (λ j u _ there. had j u there) j u there)

takes : (z : Settings) (s : Table ℕ Logged) (i : ℕ) (l : Logged) (o : ℕ) (m : Logged) → LoggedRuled z s → get_elem? s.views i ≡ some l → o ≢ i → get_elem? s.views o ≡ some m
    → LoggedRuled z (record { words = s.words; homes = s.homes; views = taken_over s i l o m })
takes z s i l o m r at apart there =
    let t : Table ℕ Logged = record { words = s.words; homes = s.homes; views = taken_over s i l o m } in
    let run : Ruled z (without_logs t) = record {
      g = r.run.g;
      seat = r.run.seat;
      settings = r.run.settings;
      good = r.run.good;
      reached = r.run.reached;
      words = r.run.words;
      shows = subst (ShowsViews r.run.g r.run.seat) (sym (same_views s i l o m at there)) r.run.shows;
    } in
    let size : length t.views ≡ length s.views = length-set (set s.views i (with_end l m)) o (ended_seat m) ∙ length-set s.views i (with_end l m) in
    let over = λ (j : ℕ) (u : Logged) (was : get_elem? s.views j ≡ some u) (n : ℕ) (e : EndedSeat) (is : get_elem? u.ends n ≡ some e). still_over s i l o m e at apart there (r.ends j u was n e is) in
    let within = at_within s.views o m there in
    let here : IsStillThere t.views (end_of m) = record {
      place = o;
      seat = ended_seat m;
      at = set_here (set s.views i (with_end l m)) o (ended_seat m) (omega (arith, within, length-set s.views i (with_end l m)));
      ended = refl;
      is = refl;
    } in
    record {
      run = run;
      acts = r.acts;
      are = r.are;
      owners = r.owners;
      logs = each_over (λ j u. IsStanding u.view → u.log ≡ part j r.acts) s i l o m r.logs (r.logs i l at) (r.logs o m there);
      unseated = λ j le. r.unseated j (omega (arith, size, le));
      known = each_over (λ j u. Knows u (part 0 r.acts)) s i l o m r.known (r.known i l at) (r.known o m there);
      told = r.told;
      tellers = each_over (λ j u. HasComeIf r.run.seat r.run.g.seated r.acts u.teller) s i l o m r.tellers (r.tellers i l at) (r.tellers o m there);
      lists = each_over (λ j u. IsPrefix u.list r.acts) s i l o m r.lists (r.lists i l at) (r.lists o m there);
      sections = each_over (λ j u. IsStanding u.view → HasItsSections j u) s i l o m r.sections
          (λ stands. let had = r.sections i l at stands in record { lacks = had.lacks; are = had.are; none = had.none })
          (λ stands. let had = r.sections o m there stands in record { lacks = had.lacks; are = had.are; none = had.none });
      heard = each_over (λ j u. IsStanding u.view → HasHeardAll j u r.acts) s i l o m r.heard (r.heard i l at) (r.heard o m there);
      ends = each_over (λ j u. AreStillThere t.views u.ends) s i l o m over (one_more_there t.views (end_of m) l.ends here (over i l at)) (over o m there);
    }

pub takes_over : (z : Settings) (i o : ℕ) (l m n : Logged) → n ≡ m → Joins (LoggedRuled z) i l o m (with_end l m) (ended_seat n)
takes_over z i o l m n same s r at apart there =
    subst (λ (x : Logged). LoggedRuled z (record { words = s.words; homes = s.homes; views = set (set s.views i (with_end l m)) o (ended_seat x) })) (sym same)
    (takes z s i l o m r at apart (was_there s.views i o (with_end l m) m apart there))

-- a CPU's seat that hasn't ended, by its parts
pub going_cpu : (me : Me ℕ Logged) → (me ≡ (record me.0 { view = Cpu (cpu_of me.0.view) }, [])) × (me.0.ended ≡ false) → me.0 ≡ record me.0 { view = Cpu (cpu_of me.0.view); ended = false }
going_cpu me is = ap (λ (x : Me ℕ Logged). x.0) is.0 ∙ (λ k. record me.0 { view = Cpu (cpu_of me.0.view); ended = is.1 k })
