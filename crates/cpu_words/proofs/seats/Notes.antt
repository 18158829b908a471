-- Notes on the words: what a seat has seen is told and heard.
use Rattle.std.proofs.Common.{[], ◌≡◌, inl, false, ℕ, ◌≤◌, List, length, take, get_or, set, Some, None, refl, sym, ap, ◌∙◌, subst, arith, get_or-set_same, get_or-set_other}
use Rattle.std.specs.Prelude.{slice_index}
use mathlib.Core.List.{IsPrefix}
use Rattle.atomic_table.specs.Table.{Splits, Joins}
use Rattle.cpu_words.specs.Types.{Change, Settings, Event, Tell, Hear, Done, Rest}
use Rattle.protocol.specs.Common.{State, seen_at, step}
use Rattle.cpu_words.specs.Common.{CpuView, KeeperView, Logged, View, Keeper, Cpu, Note, Spent, cpu_view, keeper_view, depth_of, CpuShown, KeeperShown, Shown, cpu_of, keeper_of, note_of, Sits, reference_to, Good, by_number, did, log_item, log_of_events, Makes, SplitsBy, CpuMay, SplitsOn, JoinsOn, IsIdle, section_of, head_word, index}
use Rattle.cpu_words.specs.Logs
use Rattle.cpu_words.specs.Seats
use Rattle.std.proofs.lemmas.List.{append-nil}
use Rattle.cpu_words.proofs.shown.Showing.{shows_split, shows_join, was_there, goes_to}
use Rattle.cpu_words.proofs.logs.Logs.{tells_known, tells_whole, seat_cut, seat_with_note, names_nobody, names_cpu}
use Rattle.cpu_words.proofs.shown.Seeing.{taken_is_prefix, prefix_longer, take_whole, seen_of, idle_of}
use Rattle.cpu_words.proofs.by_cpu.CpuSteps.{with_lists, same_counts, shown_on, found_on, cpu_makes, CpuDoes}
use Rattle.cpu_words.proofs.by_keeper.KeeperSteps.{with_keeper, leaves_all, keeper_makes, seen_by_keeper, loads, shown_still, KeeperDoes}

-- Telling

-- the event that tells, and that what is told is of the history
abbrev pub Tells : Event → View → List Change → Type 0
Tells e v h = (g : State) → Good g → Shown g v → (step g e ≡ Some (record { state = g; reply = Done })) × IsPrefix h g.history × (by_number g e ≡ e)

tells_by : (e : Event) (v : View) (h : List Change) → Tells e v h → SplitsBy e v v (Note h)
tells_by e v h tells g good had =
    let p = tells g good had in record {
      after = g;
      reply = Done;
      made = p.0;
      good_after = good;
      shown = had;
      shown_right = p.1;
      count = λ n. omega arith;
    }

splits : (z : Settings) (i : ℕ) (e : Event) (v : View) (h : List Change) → Tells e v h → SplitsOn z i v v (Note h) (did e Done)
splits z i e v h tells s r at =
    let g = r.g in
    let had = r.shows.fits i v at in
    let told = tells g r.good had.1 in
    goes_to z s r g r.seat e Done _ _ told.0 (ap (λ (f : Event). did f Done) told.2) r.good refl (omega arith) (λ c lt. refl) r.words
    (shows_split g g r.seat s.views i v v (Note h) r.shows at (λ j u ne sits shown backed. shown) had (tt, told.1) (λ c lt. inl lt) refl (λ n. omega arith))

cpu_tells : (x : CpuView) (c : ℕ) → x.id ≡ c → IsIdle x → Tells (Tell (Some c)) (Cpu x) x.pass
cpu_tells x c id idle = subst (λ d. Tells (Tell (Some d)) (Cpu x) x.pass) id (λ g good had.
    let seen = seen_of g x good had in
    (rw (idle_of g x seen had idle) refl, subst (λ p. IsPrefix p g.history) (sym seen.pass) (taken_is_prefix (seen_at g x.id) g.history), refl))

keeper_tells : (k : KeeperView) → k.due ≡ Rest → Tells (Tell None) (Keeper k) k.history
keeper_tells k may g good had =
    let seen = seen_by_keeper g k good had in
    (rw (sym seen.due ∙ may) refl, subst (λ h. IsPrefix h g.history) (sym seen.history) ([], append-nil g.history), refl)

-- the same of a seat

pub cpu_splits : (z : Settings) (i : ℕ) (l : Logged) (x : CpuView) (c : ℕ) → l ≡ record l { view = Cpu (cpu_of l.view) } → l.ended ≡ false → cpu_of l.view ≡ x → x.id ≡ c → IsIdle x
    → Splits (Logs.LoggedRuled z) i l (Logs.logged_after_split Seats.as_before Logs.tells_pass l) (Logs.fresh Seats.pass_told Logs.known_log_of Logs.told_by_cpu l)
cpu_splits z i l x c is going view id idle = seat_cut z i l (Cpu x) Seats.as_before Seats.pass_told Logs.tells_pass Logs.known_log_of Logs.told_by_cpu (did (Tell (Some c)) Done)
    (is ∙ ap (λ (u : CpuView). record l { view = Cpu u }) view) going tt (ap Logs.the_cpu (sym id), tt) (refl, tt) (refl, tt) (λ k. did (Tell (Some (id k))) Done) (tells_known (record l { view = Cpu x }) (did (Tell (Some c)) Done))
    (names_cpu l x (log_item (Tell (Some c)) Done)) (splits z i (Tell (Some c)) (Cpu x) x.pass (cpu_tells x c id idle))

pub cpu_splits_by : (v a : View) (x : CpuView) (c : ℕ) → cpu_of v ≡ x → a ≡ Seats.pass_told v → x.id ≡ c → IsIdle x → SplitsBy (Tell (Some c)) (Cpu x) (Cpu x) (Note (note_of a))
cpu_splits_by v a x c view right id idle =
    subst (λ h. SplitsBy (Tell (Some c)) (Cpu x) (Cpu x) (Note h)) (sym (ap note_of right ∙ ap (λ (u : CpuView). u.pass) view)) (tells_by (Tell (Some c)) (Cpu x) x.pass (cpu_tells x c id idle))

pub keeper_splits : (z : Settings) (i : ℕ) (l : Logged) (k : KeeperView) → l ≡ record l { view = Keeper (keeper_of l.view) } → l.ended ≡ false → keeper_of l.view ≡ k → k.due ≡ Rest
    → Splits (Logs.LoggedRuled z) i l (Logs.logged_after_split Seats.as_before Logs.tells_history l) (Logs.fresh Seats.history_told (Logs.whole_log Logs.tells_history) Logs.no_teller l)
keeper_splits z i l k is going view may = seat_cut z i l (Keeper k) Seats.as_before Seats.history_told Logs.tells_history (Logs.whole_log Logs.tells_history) Logs.no_teller (did (Tell None) Done)
    (is ∙ ap (λ (u : KeeperView). record l { view = Keeper u }) view) going tt (refl, tt) (refl, tt) (refl, tt) refl (tells_whole (record l { view = Keeper k }) (did (Tell None) Done) tt)
    (names_nobody (record l { view = Keeper k }) (did (Tell None) Done)) (splits z i (Tell None) (Keeper k) k.history (keeper_tells k may))

pub keeper_splits_by : (v a : View) (k : KeeperView) → keeper_of v ≡ k → a ≡ Seats.history_told v → k.due ≡ Rest → SplitsBy (Tell None) (Keeper k) (Keeper k) (Note (note_of a))
keeper_splits_by v a k view right may =
    let p : note_of a ≡ k.history = ap note_of right ∙ ap (λ (u : KeeperView). u.history) view in
    subst (λ h. SplitsBy (Tell None) (Keeper k) (Keeper k) (Note h)) (sym p) (tells_by (Tell None) (Keeper k) k.history (keeper_tells k may))

-- Hearing: the note is laid beside the view, and the core stays

-- the seat's view with the note beside it
pub record Beside (v both : View) (h : List Change) : Type 0 where
  pub sits : (seat : ℕ → ℕ) (i : ℕ) → Sits seat i v → Sits seat i both
  pub shown : (g : State) → Shown g v → IsPrefix h g.history → Shown g both
  pub owner : Logs.who both ≡ Logs.who v
  pub references : (n : ℕ) → reference_to n both ≡ reference_to n v

joins : (z : Settings) (i o : ℕ) (v both : View) (h : List Change) → Beside v both h → JoinsOn z i v o (Note h) both Spent []
joins z i o v both h beside s r at apart there =
    let g = r.g in
    let had = r.shows.fits i v at in
    let was = was_there s.views i o both (Note h) apart there in
    let told : IsPrefix h g.history = (r.shows.fits o (Note h) was).1 in
    record {
      goes_on = sym (append-nil (log_of_events z r.reached.events));
      seated = omega arith;
      seats = λ c lt. refl;
      ruled = record {
        g = g;
        seat = r.seat;
        settings = r.settings;
        good = r.good;
        reached = r.reached;
        words = r.words;
        shows = shows_join g g r.seat s.views i v o (Note h) both r.shows at apart was (λ j u ne sits shown backed. shown) (beside.sits r.seat i had.0, beside.shown g had.1 told) refl (beside.owner, refl)
            (λ n. let same = beside.references n in omega arith) there;
      };
    }

cpu_beside : (x : CpuView) (h : List Change) → Beside (Cpu x) (Cpu (Seats.with_note x h)) h
cpu_beside x h = record {
  sits = λ seat i here. here;
  shown = λ g had told. assumption (ap (λ (v : CpuView). Seats.with_note v h) had.is, told, had);
  owner = refl;
  references = λ n. refl;
}

keeper_beside : (k : KeeperView) (h : List Change) → Beside (Keeper k) (Keeper (Seats.keeper_with_note k h)) h
keeper_beside k h = record {
  sits = λ seat i here. here;
  shown = λ g had told. assumption (ap (λ (v : KeeperView). Seats.keeper_with_note v h) had.is, told, had);
  owner = refl;
  references = λ n. refl;
}

-- the same of two seats, whose views are a CPU's or the keeper's, and a note

pub cpu_joins : (z : Settings) (i o : ℕ) (l m : Logged) → l ≡ record l { view = Cpu (cpu_of l.view) } → m ≡ record m { view = Note (note_of m.view) }
    → l.ended ≡ false → m.ended ≡ false
    → Joins (Logs.LoggedRuled z) i l o m (Logs.logged_with_note Seats.beside_cpu l m) Logs.spent_seat
cpu_joins z i o l m is that going other = seat_with_note z i o l m (Cpu (cpu_of l.view)) (Note (note_of m.view)) Seats.beside_cpu is that going other tt
    (joins z i o (Cpu (cpu_of l.view)) (Seats.beside_cpu (Cpu (cpu_of l.view)) (Note (note_of m.view))) (note_of m.view) (cpu_beside (cpu_of l.view) (note_of m.view)))

pub keeper_joins : (z : Settings) (i o : ℕ) (l m : Logged) → l ≡ record l { view = Keeper (keeper_of l.view) } → m ≡ record m { view = Note (note_of m.view) }
    → l.ended ≡ false → m.ended ≡ false
    → Joins (Logs.LoggedRuled z) i l o m (Logs.logged_with_note Seats.beside_keeper l m) Logs.spent_seat
keeper_joins z i o l m is that going other = seat_with_note z i o l m (Keeper (keeper_of l.view)) (Note (note_of m.view)) Seats.beside_keeper is that going other tt
    (joins z i o (Keeper (keeper_of l.view)) (Seats.beside_keeper (Keeper (keeper_of l.view)) (Note (note_of m.view))) (note_of m.view) (keeper_beside (keeper_of l.view) (note_of m.view)))

-- The load that hears

pub hear_may : (z : Settings) (x : CpuView) (c : ℕ) → x.id ≡ c → IsIdle x → CpuDoes z x (section_of c) (λ n. n) (Hear (Some c)) (λ _. Done) (λ v _ y. Seats.HasHeard v y)
hear_may z x c id idle = rw (← id)
    (λ s r i at fits.
    let g = r.g in
    let had : CpuShown g x = (r.shows.fits i (Cpu x) at).1 in
    let seen = seen_of g x r.good had in
    let n = length g.history in
    let l = record g { seen = set g.seen x.id n } in
    let y = cpu_view (with_lists g l) x.id x in
    let sees : get_or l.seen x.id 0 ≡ n = get_or-set_same g.seen x.id n 0 seen.in_seen in
    let more : seen_at g x.id ≤ get_or l.seen x.id 0 = omega (arith, seen.within, sees) in
    let within : get_or l.seen x.id 0 ≤ n = omega (arith, sees) in
    let passes : y.pass ≡ g.history = ap (λ k. take k g.history) sees ∙ take_whole g.history in
    let made : step g (Hear (Some x.id)) ≡ Some (record { state = with_lists g l; reply = Done }) = rw (idle_of g x seen had idle) refl in
    let leaves = same_counts g x.id l refl refl refl refl (λ d ne. refl) (λ d ne. refl) (λ d ne. refl) (λ d ne. get_or-set_other g.seen x.id d _ 0 ne) (λ d ne. refl) (λ d ne. refl) in
    let shown = shown_on g x l had refl refl refl (had.depth ∙ ap depth_of seen.begin) more within (found_on g x (get_or l.seen x.id 0) had more within) in
    let words = loads z s.words g (with_lists g l) (index z (section_of x.id)) r.words refl (λ q _. refl) in
    let done = cpu_makes z s r i x (index z (section_of x.id)) (slice_index s.words (index z (section_of x.id))) l (Hear (Some x.id)) Done x at made leaves (λ k. refl) refl shown words in
    let longer : IsPrefix x.pass y.pass = subst (λ p. IsPrefix p y.pass) (sym seen.pass) (prefix_longer g.history (seen_at g x.id) (get_or l.seen x.id 0) more within) in
    let change : y ≡ record x { pass = y.pass } = ap (λ (v : CpuView). record v { pass = y.pass }) (sym had.is) in
    (Cpu y, done.0, (refl, (done.1, ((subst (IsPrefix x.noted_pass) (sym passes) had.noted_pass), longer, change)))))

-- at the place of its section word
pub own_hear_may : (z : Settings) (x : CpuView) (c i : ℕ) → x.id ≡ c → i ≡ index z (section_of c) → IsIdle x → CpuMay z x i (λ n. n) (λ n. did (Hear (Some x.id)) Done) (λ v n y. Seats.CpuHears v y)
own_hear_may z x c i id place idle = rw (place, ← id) (hear_may z x x.id refl idle)

pub hear_keeper_may : (z : Settings) (k : KeeperView) → k.due ≡ Rest → KeeperDoes z k head_word (λ n. n) (Hear None) (λ _. Done) (λ v _ l. Seats.KeeperHasHeard v l)
hear_keeper_may z k may s r i at fits =
    let g = r.g in
    let had : KeeperShown g k = (r.shows.fits i (Keeper k) at).1 in
    let l = g in
    let made : step g (Hear None) ≡ Some (record { state = with_keeper g l; reply = Done }) = rw (sym (seen_by_keeper g k r.good had).due ∙ may) refl in
    let done = keeper_makes z s r i k (index z head_word) (slice_index s.words (index z head_word)) l (Hear None) Done k at made (leaves_all g l refl refl refl refl (λ t d is. is))
    (λ n. refl) refl (shown_still g k l k had) (loads z s.words g (with_keeper g l) (index z head_word) r.words refl (λ q _. refl)) in
    (Keeper (keeper_view (with_keeper g l) k), done.0, (refl, (done.1, (had.noted_pass, sym had.is))))

-- as a note is laid beside it a view stays idle, and the load after it is the CPU's own

pub laid_idle : (x y : CpuView) (h : List Change) → y ≡ Seats.with_note x h → IsIdle x → IsIdle y
laid_idle x y h laid idle = record { search = ap (λ (v : CpuView). v.search) laid ∙ idle.search; hand = ap (λ (v : CpuView). v.hand) laid ∙ idle.hand }

pub heard_event : (x y w : CpuView) (h : List Change) (c : ℕ) → y ≡ Seats.with_note x h → x.id ≡ c → Makes (Hear (Some y.id)) Done (Cpu y) (Cpu w) → Makes (Hear (Some c)) Done (Cpu (Seats.with_note x h)) (Cpu w)
heard_event x y w h c laid id made = subst (λ (d : ℕ). Makes (Hear (Some d)) Done (Cpu (Seats.with_note x h)) (Cpu w)) id (subst (λ (v : CpuView). Makes (Hear (Some v.id)) Done (Cpu v) (Cpu w)) laid made)

-- what was heard is what the note told

pub cpu_heard : (x y w : CpuView) (h : List Change) → y ≡ Seats.with_note x h → Seats.HasHeard y w → IsPrefix h w.pass × IsPrefix x.pass w.pass × (w ≡ record x { pass = w.pass; noted_pass = h })
cpu_heard x y w h laid heard = subst (λ v. Seats.HasHeard v w) laid heard

pub keeper_heard : (k l w : KeeperView) (h : List Change) → l ≡ Seats.keeper_with_note k h → Seats.KeeperHasHeard l w → IsPrefix h w.history × (w ≡ Seats.keeper_with_note k h)
keeper_heard k l w h laid heard = subst (λ v. Seats.KeeperHasHeard v w) laid heard
