-- A step of the keeper's seat: what its view tells of the core, what the step changes, why the other views stay, and that it is its event.
use Rattle.std.proofs.Common.{◌≡◌, ℕ, List, set, sym, ap, subst, ◌⊎◌, inl, ⊎_elim, ◌+◌, ◌≤◌, ◌<◌, [], ◌++◌, length, take, sum_by, Option, Some, true, refl, ◌∙◌, arith, length-append}
use Rattle.std.proofs.lemmas.List.{set-get_or, append-nil, take-append-le}
use Rattle.std.specs.Prelude.{slice_index}
use mathlib.Core.Option.{some}
use mathlib.Core.List.{IsPrefix}
use lib.ListN.{get_elem?}
use Rattle.atomic_table.specs.Table.{State as Table, keeps, stepped}
use Rattle.cpu_words.specs.Types.{Settings, Entry, Change, Event, Reply, Slot, Retired, Hand, Back, Due, LocalPlace, Done}
use Rattle.registry_values.specs.Common.{bias, slot_at}
use Rattle.registry_values.proofs.Fit.{Ranges, ranges}
use Rattle.protocol.specs.Common.{State, IsAttached, hand_at, mark_at, passive_at, trying_at, count_at, seen_at, step, IsIn, Occupies, standing_of, HandHolds, Holds}
use Rattle.protocol.proofs.Occupied.{fresh_unoccupied}
use Rattle.protocol.proofs.keeps.Keeping.{step_holds}
use Rattle.cpu_words.specs.Common.{KeeperView, Spot, IsSpot, word_at, KeeperShown, Agrees, Good, InHand, CpuView, View, Keeper, Cpu, Reference, Note, Spent, cpu_view, keeper_view, references_to, SameHand, HandFits, CpuShown, section_of, IsFresh, Ruled, GoesOn, by_number, did, Makes, KeeperMay, KeeperStores, index}
use Rattle.cpu_words.specs.declared.view.InHand.TheVariants.{Empty as NoEntry, Taking as TakingEntry, Giving as GivingEntry, Back as BackEntry, Trying as TryingEntry}
use Rattle.cpu_words.proofs.shown.Placing.{agrees_same}
use Rattle.cpu_words.proofs.shown.Showing.{goes_to, reference_place, standing_in, Stay, shows_set}
use Rattle.cpu_words.proofs.shown.Seeing.{tries, attached_on, attached_prefix, prefix_on, occupied_or_not}

-- What the keeper's view tells of the core that shows it.

pub record SeenByKeeper (g : State) (k : KeeperView) : Type 0 where
  pub fit : Ranges g.settings
  pub settings : k.settings ≡ g.settings
  pub seated : k.seated ≡ g.seated
  pub history : k.history ≡ g.history
  pub slots : k.slots ≡ g.slots
  pub marks : k.marks ≡ g.marks
  pub keeps : k.keeps ≡ g.keeps
  pub due : k.due ≡ g.due
  pub head : k.head ≡ g.head
  pub next : k.next ≡ g.next
  pub rows : k.rows ≡ g.rows
  pub totals : k.totals ≡ g.totals
  pub lives : k.lives ≡ g.lives

pub seen_by_keeper : (g : State) (k : KeeperView) → Good g → KeeperShown g k → SeenByKeeper g k
seen_by_keeper g k good had = subst (SeenByKeeper g) (sym had.is) (assumption (ranges g.settings good.holds.fit))

-- the words after a load
pub loads : (z : Settings) (words : List ℕ) (g g' : State) (i : ℕ) → Agrees z words g → g'.settings ≡ g.settings → ((q : Spot) → IsSpot g.settings q → word_at g' q ≡ word_at g q)
    → Agrees z (set words i (slice_index words i)) g'
loads z words g g' i agrees same others = subst (λ (l : List ℕ). Agrees z l g') (sym (set-get_or words i 0)) (agrees_same z words g g' agrees same others)

-- A step of the keeper's seat: what it changes in the core, why the other views stay, and that it is its event.

-- what an event of the keeper can change in the core
abbrev pub with_keeper : State → State → State
with_keeper g l = record g {
  head = l.head;
  next = l.next;
  rows = l.rows;
  counts = l.counts;
  totals = l.totals;
  lives = l.lives;
  history = l.history;
  seated = l.seated;
  nets = l.nets;
  slots = l.slots;
  marks = l.marks;
  keeps = l.keeps;
  due = l.due;
  locals = l.locals;
}

-- an occupant that was there, and one that came
abbrev pub Stayed : State → State → ℕ → Entry → Type 0
Stayed g l t e = IsIn e (slot_at g.slots t) × ((c : ℕ) → count_at l.nets c t ≡ count_at g.nets c t)

abbrev pub Came : State → State → ℕ → Entry → Type 0
Came g l t e = (length g.history < e.number) × ((c : ℕ) → passive_at g.passive c t ≡ trying_at g.hands c t) × ((c : ℕ) → c < g.settings.cpus → count_at l.nets c t ≡ bias)

-- no CPU gets its seat, the history grows, who comes is new, and who goes leaves no passive reference: at most what is tried; what was collected stays so
pub record LeavesCpus (g : State) (l : State) : Type 0 where
  pub seated : l.seated ≡ g.seated
  pub more : (zs : List Change) × (l.history ≡ g.history ++ zs)
  pub stay : (t : ℕ) (e : Entry) → IsIn e (slot_at l.slots t) → Stayed g l t e ⊎ Came g l t e
  pub go : (t : ℕ) (e : Entry) → IsIn e (slot_at g.slots t) → IsIn e (slot_at l.slots t) ⊎ ((c : ℕ) → passive_at g.passive c t ≡ trying_at g.hands c t)
  pub collected : (t c : ℕ) (e : Entry) → slot_at g.slots t ≡ Retired e → (mark_at g.marks t c).collected ≡ true → Occupies l.slots e.number
      → (slot_at l.slots t ≡ Retired e) × ((mark_at l.marks t c).collected ≡ true)

-- what is in a hand has its slot
hand_occupies : (slots : List Slot) (locals : List LocalPlace) (c : ℕ) (h : Hand) (e : Entry) → HandHolds slots locals c h → SameHand h (BackEntry e) → Occupies slots e.number
hand_occupies slots locals c (Back n id) e holds same = subst (Occupies slots) same holds.0
hand_occupies slots locals c h e holds same = absurd same

abbrev Collected : State → State → Type 0
Collected g l = (t c : ℕ) (e : Entry) → slot_at g.slots t ≡ Retired e → (mark_at g.marks t c).collected ≡ true → Occupies l.slots e.number
    → (slot_at l.slots t ≡ Retired e) × ((mark_at l.marks t c).collected ≡ true)

hand_on : (g : State) (l : State) (zs : List Change) (c : ℕ) (h : Hand) (x : InHand) → l.history ≡ g.history ++ zs → Collected g l → HandHolds l.slots l.locals c h → SameHand h x
    → HandFits g.history g.slots g.marks c x → HandFits l.history l.slots l.marks c x
hand_on g l zs c h NoEntry more stays holds same fits = tt
hand_on g l zs c h (TakingEntry e) more stays holds same fits = subst (λ (k : List Change). IsAttached k e) (sym more) (attached_on g.history zs e fits)
hand_on g l zs c h (GivingEntry e) more stays holds same fits = subst (λ (k : List Change). IsAttached k e) (sym more) (attached_on g.history zs e fits)
hand_on g l zs c h (BackEntry e) more stays holds same fits = (
  subst (λ (k : List Change). IsAttached k e) (sym more) (attached_on g.history zs e fits.0),
  stays e.slot c e fits.1.0 fits.1.1 (hand_occupies l.slots l.locals c h e holds same),
)
hand_on g l zs c h (TryingEntry e) more stays holds same fits = tt

-- a CPU's view is shown on after a step of the keeper
pub cpu_shown_on : (g : State) (l : State) (y : CpuView) → Good g → Holds (with_keeper g l) → LeavesCpus g l → CpuShown g y → CpuShown (with_keeper g l) y
cpu_shown_on g l y good after leaves had =
    let zs = leaves.more.0 in
    let more : l.history ≡ g.history ++ zs = leaves.more.1 in
    let longer : length l.history ≡ length g.history + length zs = ap length more ∙ length-append g.history zs in
    let seats : l.seated ≡ g.seated = leaves.seated in
    let within : seen_at g y.id ≤ length g.history = good.holds.sections.prefix y.id in
    let pass : take (seen_at g y.id) g.history ≡ take (seen_at g y.id) l.history = sym (take-append-le (seen_at g y.id) g.history zs within) ∙ ap (take (seen_at g y.id)) (sym more) in record {
      seated = omega arith;
      is = had.is ∙ (λ k. record (cpu_view g y.id y) { pass = pass k });
      hand = had.hand;
      in_hand = hand_on g l zs y.id (hand_at g y.id) y.hand more leaves.collected (after.references.in_hands y.id) had.hand had.in_hand;
      depth = had.depth;
      passive = λ t e here. ⊎_elim
          (λ (stayed : Stayed g l t e). had.passive t e stayed.0)
          (λ (came : Came g l t e). omega (arith, had.gone e.number (fresh_unoccupied g.history g.slots e.number good.holds.slots came.0), came.1 y.id, tries g y t had))
          (leaves.stay t e here);
      gone = λ n off. ⊎_elim
          (λ (there : Occupies g.slots n). left g l y had leaves n there off)
          (λ (not_there : Occupies g.slots n → ⊥). had.gone n not_there)
          (occupied_or_not g.slots n);
      nets = λ t e here. ⊎_elim
          (λ (stayed : Stayed g l t e). let same = stayed.1 y.id in let b = had.nets t e stayed.0 in omega arith)
          (λ (came : Came g l t e). let net = came.2 y.id (below had.seated good.holds.seats.within) in let none = had.later e.number came.0 in let a = none.0 in let b = none.1 in omega arith)
          (leaves.stay t e here);
      later = λ n above. had.later n (omega arith);
      met = λ t e here some_one. ⊎_elim
          (λ (stayed : Stayed g l t e). had.met t e stayed.0 some_one)
          (λ (came : Came g l t e). let none = had.later e.number came.0 in let a = none.0 in let b = none.1 in absurd (omega arith))
          (leaves.stay t e here);
      there = λ t some_one. let e = had.there t some_one in (e.0, attached_prefix g.history l.history e.0 (zs, sym more) e.1, e.2, e.3);
      found = had.found;
      references = had.references;
      noted_pass = subst (IsPrefix y.noted_pass) (sym more) (prefix_on y.noted_pass g.history zs had.noted_pass);
    }
  where
    below : {a b c : ℕ} → a < b → b ≤ c → a < c
    below p q = omega arith

    left : (g : State) (l : State) (y : CpuView) → CpuShown g y → LeavesCpus g l → (n : ℕ) → Occupies g.slots n → (Occupies l.slots n → ⊥) → references_to n y.references ≡ 0
    left g l y had leaves n (t, e, here, is) off = ⊎_elim
        (λ (on : IsIn e (slot_at l.slots t)). absurd (off (t, e, on, is)))
        (λ (none : (c : ℕ) → passive_at g.passive c t ≡ trying_at g.hands c t). ap (λ m. references_to m y.references) (sym is) ∙ (omega (arith, had.passive t e here, none y.id, tries g y t had)))
        (leaves.go t e here)

pub keeper_stays : (g : State) (l : State) (seat : ℕ → ℕ) (i : ℕ) → Good g → Holds (with_keeper g l) → LeavesCpus g l → ((n : ℕ) → sum_by (standing_of n) l.locals ≡ standing_in n g) → i ≡ 0
    → Stay g (with_keeper g l) seat i
keeper_stays g l seat i good after leaves count mine j (Keeper k) ne sits shown backed = absurd (ne (sits ∙ sym mine))
keeper_stays g l seat i good after leaves count mine j (Cpu y) ne sits shown backed = cpu_shown_on g l y good after leaves shown
keeper_stays g l seat i good after leaves count mine j (Reference v) ne sits shown backed =
    let place = reference_place (with_keeper g l) v (λ n. let a = backed n in let b = count n in omega arith) in
    let there : Occupies l.slots v.entry.number = after.references.standing place.0 v.entry.number place.1 in record {
      attached = subst (λ (k : List Change). IsAttached k v.entry) (sym leaves.more.1) (attached_on g.history leaves.more.0 v.entry shown.attached);
      collected = λ c is. let was = shown.collected c is in leaves.collected v.entry.slot c v.entry was.0 was.1 there;
    }
keeper_stays g l seat i good after leaves count mine j (Note h) ne sits shown backed = subst (IsPrefix h) (sym leaves.more.1) (prefix_on h g.history leaves.more.0 shown)
keeper_stays g l seat i good after leaves count mine j Spent ne sits shown backed = tt

pub unseated_stays : (g : State) (l : State) → LeavesCpus g l → (c : ℕ) → c < g.settings.cpus → IsFresh g c → IsFresh (with_keeper g l) c
unseated_stays g l leaves c lt fresh = assumption (
  fresh,
  λ (t : ℕ) (e : Entry) (here : IsIn e (slot_at l.slots t)). ⊎_elim (λ (stayed : Stayed g l t e). stayed.1 c ∙ fresh.nets t e stayed.0) (λ (came : Came g l t e). came.2 c lt) (leaves.stay t e here),
)

pub keeper_good_after : (g : State) (l : State) (e : Event) (r : Reply) → Good g → LeavesCpus g l → step g e ≡ Some (record { state = with_keeper g l; reply = r }) → Good (with_keeper g l)
keeper_good_after g l e r good leaves made = record {
  holds = step_holds g (with_keeper g l) e r good.holds made;
  fresh = λ c le lt. unseated_stays g l leaves c lt (good.fresh c (subst (λ (n : ℕ). n ≤ c) leaves.seated le) lt);
}

-- other links, rows, places of references and seats change nothing that the keeper's view shows, and nor do its looks
pub shown_still : (g : State) (k : KeeperView) (l : State) (own : KeeperView) → KeeperShown g k
    → KeeperShown (with_keeper g (record g { next = l.next; rows = l.rows }))
    (keeper_view (with_keeper g (record g { next = l.next; rows = l.rows })) (record k { looks = own.looks; last_look = own.last_look }))
shown_still g k l own had = assumption had

-- what the keeper's step at the word p does: exactly this event, with the reply for the word found, and what is told of that; and what a store of v does
abbrev pub KeeperDoes : Settings → KeeperView → Spot → (ℕ → ℕ) → Event → (ℕ → Reply) → (KeeperView → ℕ → KeeperView → Type 0) → Type 0
KeeperDoes z k p f e reply told = KeeperMay z k (index z p) f (λ n. did e (reply n)) (λ v n l. Makes e (reply n) (Keeper v) (Keeper l) × told v n l)

abbrev pub KeeperPuts : Settings → KeeperView → Spot → ℕ → Event → (KeeperView → ℕ → KeeperView → Type 0) → Type 0
KeeperPuts z k p v e told = KeeperStores z k (index z p) v (λ _. did e Done) (λ x n y. Makes e Done (Keeper x) (Keeper y) × told x n y)

-- the keeper's step on a word keeps the rule, and is its event
pub keeper_makes : (z : Settings) (s : Table ℕ View) (r : Ruled z s) (i : ℕ) (k : KeeperView) (word m : ℕ) (l : State) (e : Event) (rep : Reply) (own : KeeperView)
    → get_elem? s.views i ≡ some (Keeper k) → step r.g e ≡ Some (record { state = with_keeper r.g l; reply = rep }) → LeavesCpus r.g l
    → ((n : ℕ) → sum_by (standing_of n) l.locals ≡ standing_in n r.g) → own.noted_pass ≡ k.noted_pass → KeeperShown (with_keeper r.g l) (keeper_view (with_keeper r.g l) own)
    → Agrees z (set s.words word m) (with_keeper r.g l)
    → GoesOn z s r (did (by_number r.g e) rep) (stepped s word m i [] (Keeper (keeper_view (with_keeper r.g l) own)) keeps) × Makes e rep (Keeper k) (Keeper (keeper_view (with_keeper r.g l) own))
keeper_makes z s r i k word m l e rep own at made leaves count noted_pass shown words =
    let g = r.g in
    let g' = with_keeper g l in
    let w = keeper_view g' own in
    let had = r.shows.fits i (Keeper k) at in
    let was : KeeperShown g k = had.1 in
    let good = keeper_good_after g l e rep r.good leaves made in (
      goes_to z s r g' r.seat e rep _ _ made refl good refl (omega (arith, leaves.seated)) (λ c lt. refl) words
          (shows_set g g' r.seat s.views i (Keeper k) (Keeper w) r.shows at (keeper_stays g l r.seat i r.good good.holds leaves count had.0) (had.0, shown) leaves.seated refl
          (λ n. let h = count n in omega arith)),
      record { g = g; after = g'; good = r.good; good_after = good; before = was; made = made; shown = shown; same = (sym (ap (λ (v : KeeperView). v.settings) was.is), noted_pass) },
    )

-- a step that leaves the history, the slots, the counts and what was collected
pub leaves_all : (g : State) (l : State) → l.history ≡ g.history → l.seated ≡ g.seated → l.slots ≡ g.slots → l.nets ≡ g.nets
    → ((t c : ℕ) → (mark_at g.marks t c).collected ≡ true → (mark_at l.marks t c).collected ≡ true) → LeavesCpus g l
leaves_all g l history seated slots nets collected = record {
  seated = seated;
  more = ([], history ∙ sym (append-nil g.history));
  stay = λ t e here. inl (subst (λ (x : List Slot). IsIn e (slot_at x t)) slots here, (λ c. ap (λ (n : List (List ℕ)). count_at n c t) nets));
  go = λ t e here. inl (subst (λ (x : List Slot). IsIn e (slot_at x t)) (sym slots) here);
  collected = λ t c e retired is there. (subst (λ (x : List Slot). slot_at x t ≡ Retired e) (sym slots) retired, collected t c is);
}

-- Other places of references, another thing that is due, and other references that slots keep: no other view speaks of them, and no word is theirs.

abbrev pub beside : State → List LocalPlace → Due → List (Option ℕ) → State
beside g locals due kept = record g { locals = locals; due = due; keeps = kept }

pub beside_stays : (g : State) (n : ℕ) (locals : List LocalPlace) (due : Due) (kept : List (Option ℕ)) → g.seated ≤ n → (seat : ℕ → ℕ) (i : ℕ) → i ≡ 0
    → Stay g (with_keeper g (record (beside g locals due kept) { seated = n })) seat i
beside_stays g n locals due kept le seat i mine j (Keeper k) ne sits shown backed = absurd (ne (sits ∙ sym mine))
beside_stays g n locals due kept le seat i mine j (Cpu y) ne sits shown backed =
    let seated : y.id < n = let lt : y.id < g.seated = shown.seated in omega (arith, lt, le) in assumption (seated, shown)
beside_stays g n locals due kept le seat i mine j (Reference v) ne sits shown backed = record { attached = shown.attached; collected = shown.collected }
beside_stays g n locals due kept le seat i mine j u ne sits shown backed = shown

pub beside_words : (g : State) (n : ℕ) (locals : List LocalPlace) (due : Due) (kept : List (Option ℕ)) (q : Spot) → word_at (with_keeper g (record (beside g locals due kept) { seated = n })) q ≡ word_at g q
beside_words g n locals due kept (section_of d) = refl
beside_words g n locals due kept q = refl
