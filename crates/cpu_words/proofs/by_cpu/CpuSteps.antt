-- A step of a CPU's seat: what it changes in the core, why the other views stay, and that it is its event; a load changes no view.
use Rattle.std.proofs.Common.{◌≡◌, ℕ, ◌<◌, [], Some, IsTrue, refl, sym, ap, ◌∙◌, subst, arith, ◌≢◌, ◌≤◌, List, length, take, get_or, set, sum_by, None, ◌+◌}
use Rattle.std.specs.List.{Contains}
use Rattle.std.proofs.lemmas.Bool.{lt-ltb}
use Rattle.std.specs.Prelude.{slice_index}
use mathlib.Core.Option.{some}
use lib.ListN.{get_elem?}
use Rattle.atomic_table.specs.Table.{State as Table, keeps, stepped}
use Rattle.cpu_words.specs.Types.{Entry, Settings, Event, LoadRecord, Local, Reply, Word, RecordWords, LocalPlace, Standing, Change, Vacant, Retired, Hand, Empty}
use Rattle.registry_values.specs.Common.{slot_at, is_key}
use Rattle.protocol.specs.Common.{State, row_at, local_at, number_standing, step, word, words_of, IsIn, IsAttached, section_at, begin_at, depth_at, seen_at, search_at, found_at, hand_at, passive_at, count_at, standing_of}
use Rattle.protocol.proofs.Occupied.{in_within}
use Rattle.protocol.proofs.Cells.{slot_number}
use Rattle.protocol.proofs.keeps.Keeping.{step_holds}
use Rattle.cpu_words.specs.Common.{ReferenceView, View, Reference, Spot, record_of, index, IsSpot, ReferenceShown, Good, Ruled, GoesOn, number_or_none, by_number, did, OneSeat, Makes, ReferenceMay, tells_local, CpuView, Keeper, Cpu, Note, Spent, cpu_view, SameHand, depth_of, GivesUp, CpuShown, Agrees, IsFresh, number_at, CpuMay}
use Rattle.cpu_words.proofs.shown.Showing.{reference_place, goes_to, shows_set, backed, standing_in, Stay}
use Rattle.cpu_words.proofs.shown.Placing.{agrees_set}
use Rattle.cpu_words.proofs.shown.Seeing.{attached_longer, its_slot}

-- A seat loads a word, and no view changes.

-- a word of the record of an entry that has its slot is the entry's
pub row_word : (g : State) (e : Entry) (k : ℕ) → Good g → IsIn e (slot_at g.slots e.slot) → word (row_at g.rows e.slot) k ≡ word (words_of e) k
row_word g e k good here = ap (λ (r : RecordWords). word r k) (good.holds.rows e.slot e here).0

-- the name of an entry with a slot isn't both words 0
pub row_keyed : (g : State) (e : Entry) → Good g → IsIn e (slot_at g.slots e.slot) → IsTrue (is_key e.rec.name)
row_keyed g e good here = (good.holds.rows e.slot e here).1

-- a load that leaves the core and the view keeps the rule, and is its event
pub keeps_view : (z : Settings) (s : Table ℕ View) (r : Ruled z s) (i : ℕ) (v : View) (p : Spot) (e : Event) (rep : Reply)
    → get_elem? s.views i ≡ some v → IsSpot r.g.settings p → step r.g e ≡ Some (record { state = r.g; reply = rep }) → OneSeat v v
    → GoesOn z s r (did (by_number r.g e) rep) (stepped s (index z p) (slice_index s.words (index z p)) i [] v keeps) × Makes e rep v v
keeps_view z s r i v p e rep at there made same =
    let g = r.g in
    let had = r.shows.fits i v at in (
      goes_to z s r g r.seat e rep _ _ made refl r.good refl (omega arith) (λ c lt. refl)
          (agrees_set z s.words g g p (slice_index s.words (index z p)) r.words refl there (sym (r.words.at p there)) (λ q also ne. refl))
          (shows_set g g r.seat s.views i v v r.shows at (λ j u ne sits shown backed. shown) had refl refl (λ n. refl)),
      record { g = g; after = g; good = r.good; good_after = r.good; before = had.1; made = made; shown = had.1; same = same },
    )

-- an entry with a live reference has its slot
pub local_here : (g : State) (v : ReferenceView) (id : ℕ) → Good g → ReferenceShown g v → local_at g.locals id ≡ Standing v.entry.number → IsIn v.entry (slot_at g.slots v.entry.slot)
local_here g v id good shown stands = its_slot g v.entry good shown.attached (good.holds.references.standing id v.entry.number stands)

-- the step: the seat's reference is live, so its entry has its slot
pub local_may : (z : Settings) (v : ReferenceView) (t k : ℕ) → v.entry.slot ≡ t → k < 5
    → ReferenceMay z v (index z (record_of t k)) (λ n. n) (λ n. did (LoadRecord (Local v.entry.number k)) (Word n)) (tells_local (LoadRecord (Local 0 k)))
local_may z v t k slot few = rw (← slot)
    (λ s r i at fits.
    let g = r.g in
    let e = v.entry in
    let shown : ReferenceShown g v = (r.shows.fits i (Reference v) at).1 in
    let place = reference_place g v (backed g r.seat s.views i (Reference v) r.shows at) in
    let here = local_here g v place.0 r.good shown place.1 in
    let lt : e.slot < g.settings.slots = omega (arith, in_within g.slots e.slot e here, r.good.holds.shape.slots) in
    let found = slice_index s.words (index z (record_of e.slot k)) in
    let stands : found ≡ word (row_at g.rows e.slot) k = r.words.at (record_of e.slot k) (lt, few) in
    let made : step g (LoadRecord (Local place.0 k)) ≡ Some (record { state = g; reply = Word found }) =
    rw (place.1, slot_number g.history g.slots e e.slot r.good.holds.slots here, lt-ltb k 5 few) (λ j. Some (record { state = g; reply = Word (sym stands j) })) in
    let done = keeps_view z s r i (Reference v) (record_of e.slot k) (LoadRecord (Local place.0 k)) (Word found) at (lt, few) made refl in (
      Reference v,
      subst (λ (n : ℕ). GoesOn z s r (did (LoadRecord (Local n k)) (Word found)) (stepped s (index z (record_of e.slot k)) found i [] (Reference v) keeps))
          (ap (λ (x : LocalPlace). number_or_none (number_standing x)) place.1) done.0,
      (
        refl,
        (
          refl,
          λ id j event.
              let same : k ≡ j = cc in (
                (place.0, subst (λ (h : ℕ). Makes (LoadRecord (Local place.0 h)) (Word found) (Reference v) (Reference v)) same done.1),
                stands ∙ row_word g e k r.good here ∙ ap (word (words_of e)) same,
                row_keyed g e r.good here,
              ),
        ),
      ),
    ))

-- A step of a CPU's seat: what it changes in the core, why the other views stay, and that it is its event.

-- what an event of a CPU can change in the core
abbrev pub with_lists : State → State → State
with_lists g l = record g {
  section = l.section;
  begins = l.begins;
  depths = l.depths;
  seen = l.seen;
  searches = l.searches;
  found = l.found;
  hands = l.hands;
  passive = l.passive;
  counts = l.counts;
  nets = l.nets;
  locals = l.locals;
}

-- the lists are changed at c alone, and what the keeper counts stays
pub record LeavesOthers (g : State) (c : ℕ) (l : State) : Type 0 where
  pub section : (d : ℕ) → d ≢ c → get_or l.section d 0 ≡ section_at g d
  pub begins : (d : ℕ) → d ≢ c → get_or l.begins d None ≡ begin_at g d
  pub depths : (d : ℕ) → d ≢ c → get_or l.depths d 0 ≡ depth_at g d
  pub seen : (d : ℕ) → d ≢ c → get_or l.seen d 0 ≡ seen_at g d
  pub searches : (d : ℕ) → d ≢ c → get_or l.searches d None ≡ search_at g d
  pub found : (d : ℕ) → d ≢ c → get_or l.found d None ≡ found_at g d
  pub hands : (d : ℕ) → d ≢ c → get_or l.hands d Empty ≡ hand_at g d
  pub passive : (d t : ℕ) → d ≢ c → passive_at l.passive d t ≡ passive_at g.passive d t
  pub nets : (d t : ℕ) → d ≢ c → count_at l.nets d t ≡ count_at g.nets d t
  pub vacant : (d t : ℕ) → slot_at g.slots t ≡ Vacant → count_at l.counts d t ≡ count_at g.counts d t
  pub gives_up : (given_up : List ℕ) (t : ℕ) (e : Entry) → slot_at g.slots t ≡ Retired e → GivesUp g given_up t e.number → GivesUp (with_lists g l) given_up t e.number

other_view : (g : State) (l : State) (c d : ℕ) (own : CpuView) → LeavesOthers g c l → d ≢ c → cpu_view g d own ≡ cpu_view (with_lists g l) d own
other_view g l c d own leaves ne n = record (cpu_view g d own) {
  section = sym (leaves.section d ne) n;
  begin = sym (leaves.begins d ne) n;
  pass = take (sym (leaves.seen d ne) n) g.history;
  search = sym (leaves.searches d ne) n;
  found = sym (leaves.found d ne) n;
}

pub cpu_stays : (g : State) (l : State) (c : ℕ) (seat : ℕ → ℕ) (i : ℕ) → LeavesOthers g c l → i ≡ seat c → Stay g (with_lists g l) seat i
cpu_stays g l c seat i leaves mine j (Keeper k) ne sits shown backed = assumption (
  λ (d t : ℕ) (vacant : slot_at g.slots t ≡ Vacant). leaves.vacant d t vacant ∙ shown.counts d t vacant,
  λ (t : ℕ) (e : Entry) (here : slot_at g.slots t ≡ Retired e). leaves.gives_up k.given_up t e here (shown.gives_up t e here),
  shown,
)
cpu_stays g l c seat i leaves mine j (Cpu y) ne sits shown backed =
    let other : y.id ≢ c = λ e. ne (sits ∙ ap seat e ∙ sym mine) in assumption (
      shown.is ∙ other_view g l c y.id y leaves other,
      subst (λ h. SameHand h y.hand) (sym (leaves.hands y.id other)) shown.hand,
      leaves.depths y.id other ∙ shown.depth,
      λ (t : ℕ) (e : Entry) (here : IsIn e (slot_at g.slots t)). leaves.passive y.id t other ∙ shown.passive t e here,
      λ (t : ℕ) (e : Entry) (here : IsIn e (slot_at g.slots t)). ap (λ n. n + number_at y.released e.number) (leaves.nets y.id t other) ∙ shown.nets t e here,
      shown,
    )
cpu_stays g l c seat i leaves mine j (Reference v) ne sits shown backed = record { attached = shown.attached; collected = shown.collected }
cpu_stays g l c seat i leaves mine j (Note h) ne sits shown backed = shown
cpu_stays g l c seat i leaves mine j Spent ne sits shown backed = tt

pub fresh_stays : (g : State) (l : State) (c : ℕ) → LeavesOthers g c l → c < g.seated → (d : ℕ) → g.seated ≤ d → IsFresh g d → IsFresh (with_lists g l) d
fresh_stays g l c leaves lt d le fresh =
    let other : d ≢ c = λ e. absurd (omega arith) in record {
      section = leaves.section d other ∙ fresh.section;
      depth = leaves.depths d other ∙ fresh.depth;
      seen = leaves.seen d other ∙ fresh.seen;
      passive = λ t. leaves.passive d t other ∙ fresh.passive t;
      nets = λ t e here. leaves.nets d t other ∙ fresh.nets t e here;
    }

pub good_after : (g : State) (l : State) (c : ℕ) (e : Event) (r : Reply) → Good g → LeavesOthers g c l → c < g.seated → step g e ≡ Some (record { state = with_lists g l; reply = r })
    → Good (with_lists g l)
good_after g l c e r good leaves lt made = record {
  holds = step_holds g (with_lists g l) e r good.holds made;
  fresh = λ d le within. fresh_stays g l c leaves lt d le (good.fresh d le within);
}

-- what a CPU's step at the word p does: exactly this event, with the reply for the word found, and what is told of that
abbrev pub CpuDoes : Settings → CpuView → Spot → (ℕ → ℕ) → Event → (ℕ → Reply) → (CpuView → ℕ → CpuView → Type 0) → Type 0
CpuDoes z x p f e reply told = CpuMay z x (index z p) f (λ n. did e (reply n)) (λ v n y. Makes e (reply n) (Cpu v) (Cpu y) × told v n y)

-- a CPU's step on a word keeps the rule, and is its event
pub cpu_makes : (z : Settings) (s : Table ℕ View) (r : Ruled z s) (i : ℕ) (x : CpuView) (word m : ℕ) (l : State) (e : Event) (rep : Reply) (own : CpuView)
    → get_elem? s.views i ≡ some (Cpu x) → step r.g e ≡ Some (record { state = with_lists r.g l; reply = rep }) → LeavesOthers r.g x.id l
    → ((n : ℕ) → sum_by (standing_of n) l.locals ≡ standing_in n r.g) → own.noted_pass ≡ x.noted_pass → CpuShown (with_lists r.g l) (cpu_view (with_lists r.g l) x.id own)
    → Agrees z (set s.words word m) (with_lists r.g l)
    → GoesOn z s r (did (by_number r.g e) rep) (stepped s word m i [] (Cpu (cpu_view (with_lists r.g l) x.id own)) keeps) × Makes e rep (Cpu x) (Cpu (cpu_view (with_lists r.g l) x.id own))
cpu_makes z s r i x word m l e rep own at made leaves count noted_pass shown words =
    let g = r.g in
    let g' = with_lists g l in
    let y = cpu_view g' x.id own in
    let had = r.shows.fits i (Cpu x) at in
    let was : CpuShown g x = had.1 in
    let good = good_after g l x.id e rep r.good leaves was.seated made in (
      goes_to z s r g' r.seat e rep _ _ made refl good refl (omega arith) (λ c lt. refl) words
          (shows_set g g' r.seat s.views i (Cpu x) (Cpu y) r.shows at (cpu_stays g l x.id r.seat i leaves had.0) (had.0, shown) refl refl (λ n. let h = count n in omega arith)),
      record { g = g; after = g'; good = r.good; good_after = good; before = was; made = made; shown = shown; same = (sym (ap (λ (v : CpuView). v.settings) was.is), refl, noted_pass) },
    )

-- A step that leaves the CPU's hand, its references and its counts

pub same_counts : (g : State) (c : ℕ) (l : State) → l.hands ≡ g.hands → l.passive ≡ g.passive → l.counts ≡ g.counts → l.nets ≡ g.nets
    → ((d : ℕ) → d ≢ c → get_or l.section d 0 ≡ section_at g d) → ((d : ℕ) → d ≢ c → get_or l.begins d None ≡ begin_at g d) → ((d : ℕ) → d ≢ c → get_or l.depths d 0 ≡ depth_at g d)
    → ((d : ℕ) → d ≢ c → get_or l.seen d 0 ≡ seen_at g d) → ((d : ℕ) → d ≢ c → get_or l.searches d None ≡ search_at g d) → ((d : ℕ) → d ≢ c → get_or l.found d None ≡ found_at g d) → LeavesOthers g c l
same_counts g c l hands passive counts nets section begins depths seen searches found = assumption (
  λ (d : ℕ) (ne : d ≢ c). ap (λ (h : List Hand). get_or h d Empty) hands,
  λ (d t : ℕ) (ne : d ≢ c). ap (λ (p : List (List ℕ)). passive_at p d t) passive,
  λ (d t : ℕ) (ne : d ≢ c). ap (λ (p : List (List ℕ)). count_at p d t) nets,
  λ (d t : ℕ) (vacant : slot_at g.slots t ≡ Vacant). ap (λ (p : List (List ℕ)). count_at p d t) counts,
  λ (given_up : List ℕ) (t : ℕ) (e : Entry) (here : slot_at g.slots t ≡ Retired e). subst (λ (n : List (List ℕ)). GivesUp g given_up t e.number → GivesUp (record g { nets = n }) given_up t e.number) (sym nets)
      (λ p. p),
)

-- the CPU sees at least what it saw, and what it has found is in its pass
pub shown_on : (g : State) (x : CpuView) (l : State) → CpuShown g x → l.hands ≡ g.hands → l.passive ≡ g.passive → l.nets ≡ g.nets
    → get_or l.depths x.id 0 ≡ depth_of (get_or l.begins x.id None) → seen_at g x.id ≤ get_or l.seen x.id 0 → get_or l.seen x.id 0 ≤ length g.history
    → ((e : Entry) → get_or l.found x.id None ≡ Some e → IsAttached (take (get_or l.seen x.id 0) g.history) e)
    → CpuShown (with_lists g l) (cpu_view (with_lists g l) x.id x)
shown_on g x l had hands passive nets depth more within found = assumption (
  subst (λ (h : List Hand). SameHand (get_or h x.id Empty) x.hand) (sym hands) had.hand,
  λ (t : ℕ) (e : Entry) (here : IsIn e (slot_at g.slots t)). ap (λ (p : List (List ℕ)). passive_at p x.id t) passive ∙ had.passive t e here,
  λ (t : ℕ) (e : Entry) (here : IsIn e (slot_at g.slots t)). ap (λ (p : List (List ℕ)). count_at p x.id t + number_at x.released e.number) nets ∙ had.nets t e here,
  found,
  λ (e : Entry) (among : Contains x.references e). attached_longer g.history (seen_at g x.id) (get_or l.seen x.id 0) e more within
      (subst (λ (p : List Change). IsAttached p e) (ap (λ (v : CpuView). v.pass) had.is) (had.references e among)),
  had,
)

-- what the CPU had found stays in its pass
pub found_on : (g : State) (x : CpuView) (n : ℕ) → CpuShown g x → seen_at g x.id ≤ n → n ≤ length g.history → (e : Entry) → found_at g x.id ≡ Some e → IsAttached (take n g.history) e
found_on g x n had more within e is = attached_longer g.history (seen_at g x.id) n e more within
    (subst (λ (p : List Change). IsAttached p e) (ap (λ (v : CpuView). v.pass) had.is) (had.found e (ap (λ (v : CpuView). v.found) had.is ∙ is)))
