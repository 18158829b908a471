-- The headline of the running words: what the protocol's laws say of the state that the table shows, of what seats hold, and of the keeper's marks.
use Rattle.std.proofs.Common.{◌≡◌, ℕ, List, IsTrue, length, sym, ap, ◌∙◌, subst, ◌<◌, ◌⊎◌, inr, ⊎_elim, Option, Some, refl, arith}
use Rattle.std.proofs.lemmas.List.{length-map}
use Rattle.std.proofs.lemmas.Option.{none-some, same_Some}
use Rattle.atomic_table.specs.Table.{State as Table}
use Rattle.cpu_words.specs.Types.{Settings, Entry, Change, Slot, Hand, LocalPlace, Mark, Retired}
use Rattle.registry_values.specs.Common.{are_fit, slot_at}
use Rattle.protocol.specs.Common.{State, IsAttached, hand_at, kept_at, IsIn, Occupies, HandHolds, MayHold, opening, mark_at, IsUnheld, picture, number_in, after}
use Rattle.protocol.specs.declared.state.Hand.TheVariants.{Empty as EmptyHand, Taking as TakingHand, Giving as GivingHand, Back as BackHand, Trying as TryingHand}
use Rattle.protocol.proofs.runs.Reuse.{every_run_keeps}
use Rattle.protocol.proofs.runs.Headline.{obeys_laws}
use Rattle.protocol.proofs.model.Refining.{every_run_is_model_run}
use Rattle.protocol.proofs.counts.Sums.{number_of, no_standing, one_self, none_in_hand}
use Rattle.protocol.proofs.Occupied.{in_within}
use Rattle.protocol.proofs.model.RefiningEntries.{unheld_when_drained}
use Rattle.cpu_words.specs.Common.{LogItem, View, without_logs, untold, AreByOwn, AreToldBefore, Agrees, ShowsViews, Good, Ruled, InHand, Empty, Taking, Giving, Back, Trying, CpuView, Keeper, Cpu, Reference, Note, Spent, SameHand, references_to, CpuShown, Shown, passive_of, count_of, KeeperShown}
use Rattle.cpu_words.specs.Headline
use Rattle.cpu_words.proofs.shown.Showing.{IsBacked, backed}
use Rattle.cpu_words.proofs.shown.Seeing.{seen_of, Seen, tries, occupies, its_slot}
use Rattle.cpu_words.proofs.by_keeper.KeeperSteps.{SeenByKeeper, seen_by_keeper}
use Rattle.cpu_words.proofs.by_keeper.Vacating.{Drained, drained_of}

pub runs_lawfully : (z : Settings) (s : Table ℕ View) → Ruled z s → Headline.RunsLawfully z s
runs_lawfully z s r =
    let run = r.reached.run in
    let fit : IsTrue (are_fit z) = subst (λ (a : Settings). IsTrue (are_fit a)) r.settings r.good.holds.fit in record {
      events = r.reached.events;
      seat = r.seat;
      settings = subst (λ (g : State). g.settings ≡ z) run r.settings;
      words = subst (λ (g : State). Agrees z s.words g) run r.words;
      shows = subst (λ (g : State). ShowsViews g r.seat s.views) run r.shows;
      good = subst (λ (g : State). Good g) run r.good;
      modelled = every_run_is_model_run z r.reached.events fit;
      laws = obeys_laws _ (every_run_keeps z r.reached.events fit);
    }

pub running_headline : Headline.RunningHeadline
unfolding runs_lawfully
running_headline z s r = record {
  run = runs_lawfully z (without_logs s) r.run;
  acts = r.acts;
  are = r.are;
  all = sym (length-map r.acts (λ (a : ℕ × LogItem). untold a.1)) ∙ ap (λ (ds : List LogItem). length ds) r.are ∙ r.run.reached.made;
  owners = subst (λ (g : State). AreByOwn r.run.seat g.seated r.acts) r.run.reached.run r.owners;
  logs = r.logs;
  known = r.known;
  lists = r.lists;
  heard = r.heard;
  told = subst (λ (g : State). AreToldBefore r.run.seat g.seated r.acts) r.run.reached.run r.told;
}

-- Holders in the views of seats: what a seat holds has its slot.

-- Hands

-- what is in the view's hand is in the core's
pub same_number : (h : Hand) (k : InHand) (n : ℕ) → SameHand h k → Headline.IsInHand n k → number_of h ≡ Some n
same_number EmptyHand Empty n same is = absurd is
same_number (TakingHand m) Empty n same is = absurd is
same_number (TakingHand m) (Taking e) n same is = ap (λ (x : ℕ). Some x) (same ∙ is)
same_number (GivingHand m id) Empty n same is = absurd is
same_number (GivingHand m id) (Giving e) n same is = ap (λ (x : ℕ). Some x) (same ∙ is)
same_number (BackHand m id) Empty n same is = absurd is
same_number (BackHand m id) (Back e) n same is = ap (λ (x : ℕ). Some x) (same ∙ is)
same_number (TryingHand t m) (Trying e) n same is = absurd is
same_number h k n same is = absurd same

-- and its entry has its slot
hand_occupies : (slots : List Slot) (locals : List LocalPlace) (c : ℕ) (h : Hand) (n : ℕ) → HandHolds slots locals c h → number_of h ≡ Some n → Occupies slots n
hand_occupies slots locals c EmptyHand n holds is = absurd (none-some n is)
hand_occupies slots locals c (TakingHand m) n holds is = subst (Occupies slots) (same_Some m n is) holds
hand_occupies slots locals c (GivingHand m id) n holds is = subst (Occupies slots) (same_Some m n is) holds.0
hand_occupies slots locals c (BackHand m id) n holds is = subst (Occupies slots) (same_Some m n is) holds.0
hand_occupies slots locals c (TryingHand t m) n holds is = absurd (none-some n is)

-- Seats

-- a CPU's references, and those of a seat of one
cpu_has : (g : State) (e : Entry) (x : CpuView) → Good g → CpuShown g x → (0 < references_to e.number x.references) ⊎ Headline.IsInHand e.number x.hand → Occupies g.slots e.number
cpu_has g e x good shown holds = ⊎_elim
    (λ (some : 0 < references_to e.number x.references). occupies g.slots e.number (λ off. omega (arith, some, shown.gone e.number off)))
    (λ (is : Headline.IsInHand e.number x.hand). hand_occupies g.slots g.locals x.id (hand_at g x.id) e.number (good.holds.references.in_hands x.id)
    (same_number (hand_at g x.id) x.hand e.number shown.hand is))
    holds

pub seat_has_slot : (g : State) (e : Entry) (v : View) → Good g → Shown g v → IsBacked g v → IsAttached g.history e → Headline.SeatHolds g.history e v → IsIn e (slot_at g.slots e.slot)
seat_has_slot g e (Keeper k) good shown has attached holds =
    let kept = good.holds.kept_drivers.drivers holds.0 e.number (sym (ap (λ (l : List (Option ℕ)). kept_at l holds.0) (seen_by_keeper g k good shown).keeps) ∙ holds.1) in
    its_slot g e good attached (kept.0, kept.1, kept.2, kept.3)
seat_has_slot g e (Cpu x) good shown has attached holds = ⊎_elim
    (λ (m : Headline.SectionMayHold g.history e x). good.holds.held x.id m.0 e (sym (seen_of g x good shown).begin ∙ m.1) m.2)
    (λ (rest : (0 < references_to e.number x.references) ⊎ Headline.IsInHand e.number x.hand). its_slot g e good attached (cpu_has g e x good shown rest))
    holds
seat_has_slot g e (Reference v) good shown has attached is = its_slot g e good attached (occupies g.slots e.number (λ off.
    omega (arith, has e.number, one_self v.entry.number e.number is, no_standing e.number g.locals (λ id stands. off (good.holds.references.standing id e.number stands)))))
seat_has_slot g e (Note h) good shown has attached holds = absurd holds
seat_has_slot g e Spent good shown has attached holds = absurd holds

pub held_have_slots : Headline.HeldHaveSlots
held_have_slots z s i j k v e r at there attached holds =
    let g = r.g in
    let seen : SeenByKeeper g k = seen_by_keeper g k r.good (r.shows.fits i (Keeper k) at).1 in
    let known : IsAttached g.history e = subst (λ (h : List Change). IsAttached h e) seen.history attached in
    let held : Headline.SeatHolds g.history e v = subst (λ (h : List Change). Headline.SeatHolds h e v) seen.history holds in
    subst (λ (l : List Slot). IsIn e (slot_at l e.slot)) (sym seen.slots) (seat_has_slot g e v r.good (r.shows.fits j v there).1 (backed g r.seat s.views j v r.shows there) known held)

-- Honest marks: what the keeper's marks tell of the views of all seats, and what a last found entry tells.

-- a view that is shown where nothing holds the entry of a drained slot
holds_none : (g : State) (t : ℕ) (e : Entry) (v : View) → Good g → Drained g t e → IsUnheld (picture g) e.number → Shown g v → IsBacked g v → Headline.SeatHolds g.history e v → ⊥
holds_none g t e (Keeper k) good drained free shown has holds = free.keeps holds.0 (sym (ap (λ (l : List (Option ℕ)). kept_at l holds.0) (seen_by_keeper g k good shown).keeps) ∙ holds.1)
holds_none g t e (Cpu x) good drained free shown has holds = ⊎_elim
    (λ (m : Headline.SectionMayHold g.history e x). free.sections x.id m.0 e (sym (seen_of g x good shown).begin ∙ m.1) m.2 refl)
    (λ (rest : (0 < references_to e.number x.references) ⊎ Headline.IsInHand e.number x.hand). ⊎_elim
    (λ (some : 0 < references_to e.number x.references). omega (arith, some, shown.passive t e (inr drained.retired), drained.passive x.id, tries g x t shown))
    (λ (is : Headline.IsInHand e.number x.hand). none_in_hand e.number g.hands (omega (arith, free.locals)) x.id (same_number (hand_at g x.id) x.hand e.number shown.hand is))
    rest)
    holds
holds_none g t e (Reference v) good drained free shown has is = omega (arith, has e.number, one_self v.entry.number e.number is, free.locals)
holds_none g t e (Note h) good drained free shown has holds = holds
holds_none g t e Spent good drained free shown has holds = holds

pub drained_is_free : Headline.DrainedIsFree
drained_is_free z s i t k r at drained =
    let run : Headline.RunsLawfully z s = runs_lawfully z s r in
    let g : State = after (opening z) run.events in
    let e = drained.retired.0 in
    let shown : KeeperShown g k = (run.shows.fits i (Keeper k) at).1 in
    let d : Drained g t e = drained_of g k t run.good shown drained in
    let free : IsUnheld (picture g) e.number = unheld_when_drained g t e.number run.good.holds d.is (ap number_in d.retired) in
    record {
      run = run;
      unheld = free;
      seats = λ j v there. subst (λ (h : List Change). Headline.SeatHolds h e v → ⊥) (sym (seen_by_keeper g k run.good shown).history)
          (holds_none g t e v run.good d free (run.shows.fits j v there).1 (backed g run.seat s.views j v run.shows there));
    }

-- what the state has of a CPU's mark tells
mark_tells : (z : Settings) (words : List ℕ) (g : State) (t : ℕ) (e : Entry) (x : CpuView) → Good g → Agrees z words g → CpuShown g x → slot_at g.slots t ≡ Retired e
    → Headline.MarkTells z words g.history t e (mark_at g.marks t x.id) x
mark_tells z words g t e x good agrees shown retired =
    let seen : Seen g x = seen_of g x good shown in
    let slot : t < g.settings.slots = omega (arith, in_within g.slots t e (inr retired), good.holds.shape.slots) in
    let ended = (good.holds.slots.retired t e retired).2 in record {
      passed = λ passed m. absurd (omega (arith, good.holds.grace.passed t ended.0 x.id m.0 e retired ended.1 (sym seen.begin ∙ m.1) passed, m.2.unended ended.0 ended.1));
      clear = λ clear.
          let none = good.holds.passive.clear x.id t e retired clear in
          let tried = tries g x t shown in
          (none.0, omega (arith, shown.passive t e (inr retired), tried, none.1), agrees.at (passive_of x.id t) (seen.lt, slot) ∙ (none.1 ∙ sym tried));
      collected = λ collected.
          (good.holds.passive.collected x.id t e retired collected, agrees.at (count_of x.id t) (seen.lt, slot) ∙ good.holds.balance.emptied x.id t e retired collected);
    }

pub marks_are_honest : Headline.MarksAreHonest
marks_are_honest z s i j t k x e r at there retired =
    let g = r.g in
    let seen : SeenByKeeper g k = seen_by_keeper g k r.good (r.shows.fits i (Keeper k) at).1 in
    let told = mark_tells z s.words g t e x r.good r.words (r.shows.fits j (Cpu x) there).1 (sym (ap (λ (l : List Slot). slot_at l t) seen.slots) ∙ retired) in
    subst (λ (p : List Change × List (List Mark)). Headline.MarkTells z s.words p.0 t e (mark_at p.1 t x.id) x) (λ q. (sym seen.history q, sym seen.marks q)) told

pub found_is_held : Headline.FoundIsHeld
found_is_held z s i j k x e r at there is =
    let g = r.g in
    let own : Seen g x = seen_of g x r.good (r.shows.fits j (Cpu x) there).1 in
    let held = r.good.holds.last_found x.id e (sym own.found ∙ is) in
    (held.0, own.begin ∙ held.1, subst (λ (h : List Change). MayHold h held.0 e) (sym (seen_by_keeper g k r.good (r.shows.fits i (Keeper k) at).1).history) held.2)
