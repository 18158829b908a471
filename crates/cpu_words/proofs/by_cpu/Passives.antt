-- Passive references on the words.
use Rattle.std.proofs.Common.{◌≡◌, ◌≢◌, ◌⊎◌, ⊎_elim, ℕ, ◌+◌, ◌-◌, ◌%◌, ◌^◌, ◌<◌, List, [], ◌∷◌, length, take, set, Some, true, ◌||◌, nat_lt, refl, sym, ap, ◌∙◌, subst, arith}
use Rattle.std.proofs.lemmas.Bool.{lt-ltb, eq-eqb, or_left, or_right, cases_eq}
use Rattle.std.specs.List.{Contains}
use Rattle.std.specs.Prelude.{slice_index}
use mathlib.Core.Option.{some}
use lib.ListN.{get_elem?}
use Rattle.atomic_table.specs.Table.{State as Table, keeps, stepped}
use Rattle.cpu_words.specs.Types.{Entry, Change, Settings, MOST_SLOTS, Event, PassiveAdd, PassiveSub, LoadRecord, Passive, Word}
use Rattle.protocol.specs.Common.{IsAttached, State, with_cell, begin_at, depth_at, seen_at, found_at, row_at, passive_at, step, is_number, after_add, after_sub, word, IsIn, Occupies}
use Rattle.registry_values.specs.Common.{slot_at, slot_of}
use Rattle.protocol.proofs.Cells.{cell_here, cell_other, slot_number}
use Rattle.protocol.proofs.Occupied.{one_in, in_within, one_number}
use Rattle.cpu_words.specs.Common.{CpuView, LogItem, View, Cpu, passive_of, record_of, index, cpu_view, depth_of, references_to, trying_in, without, CpuShown, cpu_of, Agrees, Good, Ruled, GoesOn, by_number, did, Makes, CpuMay, IsIdle, MayAdd, MayUse, HasSubtracted, IsAloneAt, tells_added, tells_subtracted, tells_passive}
use Rattle.cpu_words.proofs.shown.Placing.{agrees_set}
use Rattle.cpu_words.proofs.shown.Seeing.{Seen, seen_of, idle_of, idle_tries, occupies, its_slot, known_attached}
use Rattle.cpu_words.proofs.by_cpu.CpuSteps.{with_lists, LeavesOthers, cpu_makes, row_word, keeps_view}
use Rattle.cpu_words.proofs.shown.ReferenceLists.{to_same, to_other, in_cons, counts, one_less, others_stay, was_in}

-- The entries that a CPU may refer to

-- an entry that has its slot, and how the CPU's word for that slot counts
pub record Known (g : State) (x : CpuView) (e : Entry) : Type 0 where
  pub here : IsIn e (slot_at g.slots e.slot)
  pub lt : e.slot < g.settings.slots
  pub few : e.slot < MOST_SLOTS
  pub of : slot_of g.slots e.number ≡ Some e.slot
  pub count : passive_at g.passive x.id e.slot ≡ references_to e.number x.references + trying_in e.slot x.hand
  pub attached : IsAttached x.pass e

-- an idle CPU's word for that slot counts its references alone
counted_idle : (g : State) (x : CpuView) (e : Entry) → Known g x e → IsIdle x → passive_at g.passive x.id e.slot ≡ references_to e.number x.references
counted_idle g x e known idle = let count = known.count in let none = idle_tries x e.slot idle in omega (arith, count, none)

-- what is known of an entry that has its slot and is in the pass
pub known_in : (g : State) (x : CpuView) (e : Entry) → Good g → CpuShown g x → IsIn e (slot_at g.slots e.slot) → IsAttached x.pass e → Known g x e
known_in g x e good had here there =
    let fit = (seen_of g x good had).fit in
    let lt : e.slot < g.settings.slots = omega (arith, in_within g.slots e.slot e here, good.holds.shape.slots) in record {
      here = here;
      lt = lt;
      few = omega (arith, lt, fit.slots);
      of = slot_number g.history g.slots e e.slot good.holds.slots here;
      count = had.passive e.slot e here;
      attached = there;
    }

-- what was found last: the open section may hold it, and so it has its slot
pub found_known : (g : State) (x : CpuView) (e : Entry) → Good g → CpuShown g x → x.found ≡ Some e → Known g x e
found_known g x e good had is =
    let open_ = good.holds.last_found x.id e (sym (ap (λ (v : CpuView). v.found) had.is) ∙ is) in
    known_in g x e good had (good.holds.held x.id open_.0 e open_.1 open_.2) (had.found e is)

-- what the CPU refers to: its references to a number that no slot has are none
pub held_known : (g : State) (x : CpuView) (e : Entry) → Good g → CpuShown g x → Contains x.references e → Known g x e
held_known g x e good had among =
    let has = occupies g.slots e.number (λ none. omega (arith, counts x.references e e.number among refl, had.gone e.number none)) in
    let there = had.references e among in
    known_in g x e good had (its_slot g e good (known_attached g x e (seen_of g x good had) there) has) there

-- the CPU's references into the slot of such an entry are to it
pub alone : (g : State) (x : CpuView) (e : Entry) (t n : ℕ) → Good g → CpuShown g x → Known g x e → e.slot ≡ t → e.number ≡ n → IsAloneAt x t n
alone g x e t n good had known slot number f among same =
    ap (λ (h : Entry). h.number) (one_in f e (slot_at g.slots e.slot) known.here (subst (λ (u : ℕ). IsIn f (slot_at g.slots u)) (same ∙ sym slot) (held_known g x f good had among).here)) ∙ number

-- A step on the CPU's passive word for one slot

-- the CPU c has m as its passive word for the slot t
abbrev pub put : State → ℕ → ℕ → ℕ → State
put g c t m = record g { passive = with_cell g.passive t c m }

-- of the other CPUs nothing changes
put_leaves : (g : State) (c t m : ℕ) → LeavesOthers g c (put g c t m)
put_leaves g c t m = assumption (λ (d u : ℕ) (ne : d ≢ c). cell_other 0 g.passive t c m u d (λ _ same. ne same))

-- one word changes
pub put_words : (z : Settings) (words : List ℕ) (g : State) (c t m : ℕ) → Good g → c < g.settings.cpus → t < g.settings.slots → passive_at (with_cell g.passive t c m) c t ≡ m → Agrees z words g
    → Agrees z (set words (index z (passive_of c t)) m) (with_lists g (put g c t m))
put_words z words g c t m good lt within is agrees = agrees_set z words g (with_lists g (put g c t m)) (passive_of c t) m agrees refl (lt, within) is
    (elim [ passive_of d u ↦ λ _ ne. cell_other 0 g.passive t c m u d (λ a b. ne (λ i. passive_of (b i) (a i))) | _ ↦ λ _ _. refl ])

-- the word is in the state
pub put_here : (g : State) (x : CpuView) (t m : ℕ) → Good g → Seen g x → t < g.settings.slots → passive_at (with_cell g.passive t x.id m) x.id t ≡ m
put_here g x t m good seen within =
    let shape = good.holds.shape in
    let rows : t < length g.passive = omega (arith, within, shape.passive) in
    cell_here 0 g.passive t x.id m rows (omega (arith, shape.passive_rows t rows, seen.lt, seen.fit.cpus))

-- the CPU's word for the slot of e counts other references, to e alone more or less
pub put_shown : (g : State) (x : CpuView) (e : Entry) (references : List Entry) (m : ℕ) → Good g → CpuShown g x → IsIdle x → Known g x e → m ≡ references_to e.number references
    → ((n : ℕ) → (e.number ≡ n → ⊥) → references_to n references ≡ references_to n x.references) → ((f : Entry) → Contains references f → IsAttached x.pass f)
    → CpuShown (with_lists g (put g x.id e.slot m)) (cpu_view (with_lists g (put g x.id e.slot m)) x.id (record x { references = references }))
put_shown g x e references m good had idle known is others attached = assumption (
  depth,
  passive,
  λ (n : ℕ) (none : Occupies g.slots n → ⊥). others n (λ same. none (e.slot, e, known.here, same)) ∙ had.gone n none,
  λ (f : Entry) (found : found_at g x.id ≡ Some f). subst (λ (p : List Change). IsAttached p f) pass (had.found f (ap (λ (v : CpuView). v.found) had.is ∙ found)),
  λ (f : Entry) (among : Contains references f). subst (λ (p : List Change). IsAttached p f) pass (attached f among),
  had,
)
  where
    seen : Seen g x
    seen = seen_of g x good had

    pass : x.pass ≡ take (seen_at g x.id) g.history
    pass = seen.pass

    depth : depth_at g x.id ≡ depth_of (begin_at g x.id)
    depth = had.depth ∙ ap depth_of seen.begin

    passive : (t : ℕ) (f : Entry) → IsIn f (slot_at g.slots t) → passive_at (with_cell g.passive e.slot x.id m) x.id t ≡ references_to f.number references + trying_in t x.hand
    passive t f here = ⊎_elim
        (λ (same : t ≡ e.slot).
        let one : f ≡ e = one_in f e (slot_at g.slots e.slot) known.here (subst (λ (u : ℕ). IsIn f (slot_at g.slots u)) same here) in
        let word : passive_at (with_cell g.passive e.slot x.id m) x.id t ≡ references_to f.number references =
        ap (λ (u : ℕ). passive_at (with_cell g.passive e.slot x.id m) x.id u) same ∙ put_here g x e.slot m good seen known.lt ∙ is ∙ ap (λ (h : Entry). references_to h.number references) (sym one) in
        omega (arith, word, idle_tries x t idle))
        (λ (off : t ≡ e.slot → ⊥).
        let word = cell_other 0 g.passive e.slot x.id m t x.id (λ same _. off same) in
        omega (arith, word, had.passive t f here, others f.number (λ same. off (one_number g.history g.slots e.slot t e f good.holds.slots known.here here (sym same)).0)))
        (cases_eq t e.slot)

-- the word as it is in the table
put_word : (z : Settings) (words : List ℕ) (g : State) (x : CpuView) (e : Entry) → Good g → CpuShown g x → Known g x e → Agrees z words g
    → slice_index words (index z (passive_of x.id e.slot)) ≡ passive_at g.passive x.id e.slot
put_word z words g x e good had known agrees = agrees.at (passive_of x.id e.slot) ((seen_of g x good had).lt, known.lt)

-- such a step keeps the rule, and is its event
put_makes : (z : Settings) (s : Table ℕ View) (r : Ruled z s) (i : ℕ) (x : CpuView) (e : Entry) (references : List Entry) (m : ℕ) (event : Event)
    → get_elem? s.views i ≡ some (Cpu x) → IsIdle x → Known r.g x e → m ≡ references_to e.number references
    → ((n : ℕ) → (e.number ≡ n → ⊥) → references_to n references ≡ references_to n x.references) → ((f : Entry) → Contains references f → IsAttached x.pass f)
    → step r.g event ≡ Some (record { state = with_lists r.g (put r.g x.id e.slot m); reply = Word (passive_at r.g.passive x.id e.slot) })
    → (y : CpuView) × (y ≡ record x { references = references })
    × GoesOn z s r (did (by_number r.g event) (Word (slice_index s.words (index z (passive_of x.id e.slot))))) (stepped s (index z (passive_of x.id e.slot)) m i [] (Cpu y) keeps)
    × Makes event (Word (slice_index s.words (index z (passive_of x.id e.slot)))) (Cpu x) (Cpu y)
put_makes z s r i x e references m event at idle known is others attached made =
    let g = r.g in
    let had : CpuShown g x = (r.shows.fits i (Cpu x) at).1 in
    let seen = seen_of g x r.good had in
    let l = put g x.id e.slot m in
    let own : CpuView = record x { references = references } in
    let shown = put_shown g x e references m r.good had idle known is others attached in
    let words = put_words z s.words g x.id e.slot m r.good seen.lt known.lt (put_here g x e.slot m r.good seen known.lt) r.words in
    let made' : step g event ≡ Some (record { state = with_lists g l; reply = Word (slice_index s.words (index z (passive_of x.id e.slot))) }) =
    made ∙ (λ k. Some (record { state = with_lists g l; reply = Word (sym (put_word z s.words g x e r.good had known r.words) k) })) in
    let done = cpu_makes z s r i x (index z (passive_of x.id e.slot)) m l event _ own at made' (put_leaves g x.id e.slot m) (λ k. refl) refl shown words in
    let change : cpu_view (with_lists g l) x.id own ≡ record x { references = references } = ap (λ (v : CpuView). record v { references = references }) (sym had.is) in
    (cpu_view (with_lists g l) x.id own, change, done.0, done.1)

-- a CPU's seat has a view after
moved : (z : Settings) (s : Table ℕ View) (r : Ruled z s) (es : List LogItem) (i : ℕ) (x : CpuView) (p m : ℕ) (tells : CpuView → ℕ → CpuView → Type 0) (y : CpuView)
    → GoesOn z s r es (stepped s p m i [] (Cpu y) keeps) → tells x (slice_index s.words p) y
    → (w : View) × GoesOn z s r es (stepped s p m i [] w keeps) × ((w ≡ Cpu (cpu_of w)) × tells x (slice_index s.words p) (cpu_of w))
moved z s r es i x p m tells y ruled told = (Cpu y, ruled, (refl, told))

-- One reference more

-- the core allows the addition
add_allowed : (g : State) (x : CpuView) (e : Entry) → Good g → CpuShown g x → Known g x e → IsIdle x → (x.found ≡ Some e) ⊎ Contains x.references e
    → references_to e.number x.references < x.settings.passive_limit
    → step g (PassiveAdd x.id e.number) ≡ Some (record { state = after_add g x.id e.slot; reply = Word (passive_at g.passive x.id e.slot) })
add_allowed g x e good had known idle has room =
    let seen = seen_of g x good had in
    let count = counted_idle g x e known idle in
    let below : passive_at g.passive x.id e.slot < g.settings.passive_limit = omega (arith, count, ap (λ (a : Settings). a.passive_limit) seen.settings, room) in
    let known_to : (is_number e.number (found_at g x.id) || nat_lt 0 (passive_at g.passive x.id e.slot)) ≡ true = ⊎_elim
    (λ (found : x.found ≡ Some e). or_left _ _ (ap (is_number e.number) (sym seen.found ∙ found) ∙ eq-eqb e.number e.number refl))
    (λ (among : Contains x.references e). let one = counts x.references e e.number among refl in or_right _ _ (lt-ltb 0 (passive_at g.passive x.id e.slot) (omega (arith, count, one))))
    has in
    rw (known.of, idle_of g x seen had idle, known_to, lt-ltb (passive_at g.passive x.id e.slot) g.settings.passive_limit below) refl

-- an entry that was found last, or that the CPU refers to
pub known_of : (g : State) (x : CpuView) (e : Entry) → Good g → CpuShown g x → (x.found ≡ Some e) ⊎ Contains x.references e → Known g x e
known_of g x e good had has = ⊎_elim (found_known g x e good had) (held_known g x e good had) has

-- the step, for an entry
add_at : (z : Settings) (x : CpuView) (e : Entry) → IsIdle x → (x.found ≡ Some e) ⊎ Contains x.references e → references_to e.number x.references < x.settings.passive_limit
    → CpuMay z x (index z (passive_of x.id e.slot)) (λ m. (m + 1) % 2 ^ 64) (λ m. did (PassiveAdd x.id e.number) (Word m)) (tells_added z (PassiveAdd x.id e.number) (index z (passive_of x.id e.slot)))
add_at z x e idle has room s r i at fits =
    let g = r.g in
    let had : CpuShown g x = (r.shows.fits i (Cpu x) at).1 in
    let seen = seen_of g x r.good had in
    let known = known_of g x e r.good had has in
    let word = slice_index s.words (index z (passive_of x.id e.slot)) in
    let stands : word ≡ passive_at g.passive x.id e.slot = put_word z s.words g x e r.good had known r.words in
    let count = counted_idle g x e known idle in
    let next : (word + 1) % 2 ^ 64 ≡ passive_at g.passive x.id e.slot + 1 = omega (arith, stands, count, room, ap (λ (a : Settings). a.passive_limit) seen.settings, seen.fit.passive) in
    let is : (word + 1) % 2 ^ 64 ≡ references_to e.number (e ∷ x.references) = omega (arith, next, count, to_same e.number e x.references refl) in
    let made = add_allowed g x e r.good had known idle has room ∙ (λ k. Some (record { state = with_lists g (put g x.id e.slot (sym next k)); reply = Word (passive_at g.passive x.id e.slot) })) in
    let done = put_makes z s r i x e (e ∷ x.references) ((word + 1) % 2 ^ 64) (PassiveAdd x.id e.number) at idle known is (λ n off. to_other n e x.references off)
    (λ f among. ⊎_elim (λ (here : e ≡ f). subst (IsAttached x.pass) here known.attached) (λ (later : Contains x.references f). had.references f later) (in_cons e f x.references among)) made in
    moved z s r (did (PassiveAdd x.id e.number) (Word word)) i x (index z (passive_of x.id e.slot)) ((word + 1) % 2 ^ 64)
    (tells_added z (PassiveAdd x.id e.number) (index z (passive_of x.id e.slot))) done.0 done.2 (
      done.3,
      λ c t n event place.
          let number : e.number ≡ n = cc in
          let cpu : x.id ≡ c = cc in
          let slot : e.slot ≡ t = omega (arith, subst (λ (d : ℕ). index z (passive_of x.id e.slot) ≡ index z (passive_of d t)) (sym cpu) place) in (
            (e, record { slot = slot; number = number }, known.attached, done.1),
            omega (arith, slot, known.few),
            stands ∙ count ∙ ap (λ (k : ℕ). references_to k x.references) number,
            alone g x e t n r.good had known slot number,
          ),
    )

-- the step, for a slot and a number
pub add_may : (z : Settings) (x : CpuView) (c t n : ℕ) → x.id ≡ c → MayAdd x t n
    → CpuMay z x (index z (passive_of c t)) (λ m. (m + 1) % 2 ^ 64) (λ m. did (PassiveAdd c n) (Word m)) (tells_added z (PassiveAdd c n) (index z (passive_of c t)))
add_may z x c t n id may = rw (← id, ← may.at.slot, ← may.at.number) (add_at z x may.entry may.idle may.known (subst (λ (k : ℕ). references_to k x.references < x.settings.passive_limit) (sym may.at.number) may.room))

-- One reference less

-- the core allows the subtraction
sub_allowed : (g : State) (x : CpuView) (e : Entry) → Good g → CpuShown g x → Known g x e → IsIdle x → 0 < references_to e.number x.references
    → step g (PassiveSub x.id e.number) ≡ Some (record { state = after_sub g x.id e.slot; reply = Word (passive_at g.passive x.id e.slot) })
sub_allowed g x e good had known idle one =
    rw (known.of, idle_of g x (seen_of g x good had) had idle, lt-ltb 0 (passive_at g.passive x.id e.slot) (omega (arith, counted_idle g x e known idle, one))) refl

-- the number may be written in another way
less_of : (x y : CpuView) (m n : ℕ) → m ≡ n → y ≡ record x { references = without m x.references } → HasSubtracted x n y
less_of x y m n same is = is ∙ ap (λ (k : ℕ). record x { references = without k x.references }) same

-- the step, for an entry
sub_at : (z : Settings) (x : CpuView) (e : Entry) → IsIdle x → Contains x.references e
    → CpuMay z x (index z (passive_of x.id e.slot)) (λ m. (m + (2 ^ 64 - 1)) % 2 ^ 64) (λ m. did (PassiveSub x.id e.number) (Word m))
    (tells_subtracted z (PassiveSub x.id e.number) (index z (passive_of x.id e.slot)))
sub_at z x e idle among s r i at fits =
    let g = r.g in
    let had : CpuShown g x = (r.shows.fits i (Cpu x) at).1 in
    let known = held_known g x e r.good had among in
    let word = slice_index s.words (index z (passive_of x.id e.slot)) in
    let stands : word ≡ passive_at g.passive x.id e.slot = put_word z s.words g x e r.good had known r.words in
    let count = counted_idle g x e known idle in
    let one = counts x.references e e.number among refl in
    let limited = r.good.holds.passive.limited x.id e.slot in
    let next : (word + (2 ^ 64 - 1)) % 2 ^ 64 ≡ passive_at g.passive x.id e.slot - 1 = omega (arith, stands, count, one, limited, (seen_of g x r.good had).fit.passive) in
    let is : (word + (2 ^ 64 - 1)) % 2 ^ 64 ≡ references_to e.number (without e.number x.references) = omega (arith, next, count, one_less e.number x.references one) in
    let made = sub_allowed g x e r.good had known idle one ∙ (λ k. Some (record { state = with_lists g (put g x.id e.slot (sym next k)); reply = Word (passive_at g.passive x.id e.slot) })) in
    let done = put_makes z s r i x e (without e.number x.references) ((word + (2 ^ 64 - 1)) % 2 ^ 64) (PassiveSub x.id e.number) at idle known is
    (λ n off. others_stay e.number n x.references (λ same. off (sym same)))
    (λ f left. had.references f (was_in e.number x.references f left)) made in
    moved z s r (did (PassiveSub x.id e.number) (Word word)) i x (index z (passive_of x.id e.slot)) ((word + (2 ^ 64 - 1)) % 2 ^ 64)
    (tells_subtracted z (PassiveSub x.id e.number) (index z (passive_of x.id e.slot))) done.0 done.2 (
      done.3,
      λ c t n event place.
          let number : e.number ≡ n = cc in
          let cpu : x.id ≡ c = cc in
          let slot : e.slot ≡ t = omega (arith, subst (λ (d : ℕ). index z (passive_of x.id e.slot) ≡ index z (passive_of d t)) (sym cpu) place) in
          (less_of x done.0 e.number n number done.1, stands ∙ count ∙ ap (λ (k : ℕ). references_to k x.references) number, alone g x e t n r.good had known slot number),
    )

-- the step, for a slot and a number
pub sub_may : (z : Settings) (x : CpuView) (c t n : ℕ) → x.id ≡ c → MayUse x t n
    → CpuMay z x (index z (passive_of c t)) (λ m. (m + (2 ^ 64 - 1)) % 2 ^ 64) (λ m. did (PassiveSub c n) (Word m)) (tells_subtracted z (PassiveSub c n) (index z (passive_of c t)))
sub_may z x c t n id may = rw (← id, ← may.at.slot, ← may.at.number) (sub_at z x may.entry may.idle may.held)

-- The record of an entry that the CPU refers to

-- the step, for an entry
load_at : (z : Settings) (x : CpuView) (e : Entry) (k : ℕ) → IsIdle x → Contains x.references e → k < 5
    → CpuMay z x (index z (record_of e.slot k)) (λ m. m) (λ m. did (LoadRecord (Passive x.id e.number k)) (Word m)) (tells_passive (LoadRecord (Passive x.id e.number k)) (index z (record_of e.slot k)))
load_at z x e k idle among few s r i at fits =
    let g = r.g in
    let had : CpuShown g x = (r.shows.fits i (Cpu x) at).1 in
    let known = held_known g x e r.good had among in
    let found = slice_index s.words (index z (record_of e.slot k)) in
    let stands : found ≡ word (row_at g.rows e.slot) k = r.words.at (record_of e.slot k) (known.lt, few) in
    let one = counts x.references e e.number among refl in
    let held : nat_lt 0 (passive_at g.passive x.id e.slot) ≡ true = lt-ltb 0 (passive_at g.passive x.id e.slot) (omega (arith, counted_idle g x e known idle, one)) in
    let made : step g (LoadRecord (Passive x.id e.number k)) ≡ Some (record { state = g; reply = Word found }) =
    rw (known.of, idle_of g x (seen_of g x r.good had) had idle, held, lt-ltb k 5 few) (λ j. Some (record { state = g; reply = Word (sym stands j) })) in
    let done = keeps_view z s r i (Cpu x) (record_of e.slot k) (LoadRecord (Passive x.id e.number k)) (Word found) at (known.lt, few) made (refl, refl, refl) in
    moved z s r (did (LoadRecord (Passive x.id e.number k)) (Word found)) i x (index z (record_of e.slot k)) found
    (tells_passive (LoadRecord (Passive x.id e.number k)) (index z (record_of e.slot k))) x done.0 (
      done.1,
      refl,
      λ c t n j event place.
          let same_word : k ≡ j = cc in
          let number : e.number ≡ n = cc in
          let slot : e.slot ≡ t = omega (arith, same_word, place) in (
            λ f at_ held_. stands ∙ (λ h. word (row_at g.rows ((slot ∙ sym at_.slot) h)) (same_word h)) ∙ row_word g f j r.good (held_known g x f r.good had held_).here,
            alone g x e t n r.good had known slot number,
            λ f at_ held_. (r.good.holds.rows f.slot f (held_known g x f r.good had held_).here).1,
          ),
    )

-- the step, for a slot and a number
pub load_may : (z : Settings) (x : CpuView) (c t n k : ℕ) → x.id ≡ c → k < 5 → MayUse x t n
    → CpuMay z x (index z (record_of t k)) (λ m. m) (λ m. did (LoadRecord (Passive c n k)) (Word m)) (tells_passive (LoadRecord (Passive c n k)) (index z (record_of t k)))
load_may z x c t n k id few may = rw (← id, ← may.at.slot, ← may.at.number) (load_at z x may.entry k may.idle may.held few)
