-- Passive references without a section, on the words.
use Rattle.std.proofs.Common.{◌≡◌, ◌≢◌, inl, inr, ⊎_elim, ℕ, ◌+◌, ◌-◌, ◌%◌, ◌^◌, ◌<◌, ◌≤◌, ◌&&◌, nat_le, Bool, true, if◌then◌else◌, List, [], ◌∷◌, length, set, take, get_or, Some, None, is_none, IsTrue, refl, sym, ap, ◌∙◌, subst, arith, leb-true, get_or-set_same, get_or-set_other}
use Rattle.std.proofs.lemmas.Bool.{and_from, and_parts, le-leb, lt-ltb, eq-eqb, ne_eqb, cases_eq, cases_lt}
use Rattle.std.specs.List.{Contains}
use Rattle.std.specs.Prelude.{slice_index}
use mathlib.Core.Option.{some}
use mathlib.Core.List.{IsPrefix}
use lib.ListN.{get_elem?}
use Rattle.atomic_table.specs.Table.{State as Table, keeps, stepped}
use Rattle.cpu_words.specs.Types.{MOST_COUNT, MOST_SECTIONS, Entry, Change, Settings, Slot, Vacant, Live, Retired, Event, Try, Confirm, TakeBack, Recall, Word, Hand, Empty, Trying}
use Rattle.registry_values.specs.Common.{are_fit, are_limits_fit, are_sizes_fit, is_within, slot_at}
use Rattle.protocol.specs.Common.{IsAttached, IsLiveAt, State, with_cell, seen_at, search_at, found_at, passive_at, trying_of, step, guard, some_outcome, IsIn, Occupies, after_confirm, confirm, is_honest, has_live, live_at, may_confirm, take_back}
use Rattle.protocol.proofs.History.{one_entry, attached_within}
use Rattle.protocol.proofs.keeps.CountKeeps.{trying_tells}
use Rattle.protocol.proofs.runs.Fresh.{honest_tells, live_is}
use Rattle.protocol.proofs.Cells.{cell_other}
use Rattle.protocol.proofs.Occupied.{one_in, one_number}
use Rattle.cpu_words.specs.declared.view.InHand.TheVariants.{Empty as NoEntry, Trying as TryingEntry}
use Rattle.cpu_words.specs.Common.{InHand, CpuView, View, Cpu, passive_of, live_of, index, cpu_view, depth_of, SameHand, HandFits, trying_in, references_to, CpuShown, cpu_of, Agrees, Good, Ruled, GoesOn, did, CpuMay, IsIdle, EndTold, HasConfirmed, HasTakenBack, IsTrying, MayEndTry, MayTakeBack, MayTry, TriedTold, event_by}
use Rattle.cpu_words.proofs.shown.Seeing.{attached_longer, number_within, prefix_longer, take_whole, Seen, seen_of, idle_of, empty_hand, idle_tries, trying_here, trying_elsewhere, known_attached}
use Rattle.cpu_words.proofs.shown.Placing.{agrees_same}
use Rattle.cpu_words.proofs.shown.ReferenceLists.{to_same, to_other, in_cons, some_of}
use Rattle.cpu_words.proofs.by_cpu.CpuSteps.{with_lists, LeavesOthers, found_on, cpu_makes, CpuDoes}
use Rattle.cpu_words.proofs.by_cpu.Hands.{handed, same_words, trying_hand}
use Rattle.cpu_words.proofs.by_cpu.Passives.{held_known, known_in, alone, put, put_here, put_words}
use Rattle.cpu_words.proofs.by_cpu.Recalling.{honest_in, recall_may}
use Rattle.cpu_words.proofs.by_cpu.Searching.{loaded_words}

-- Other passive words of the CPU c, and another hand of it

abbrev try_lists : State → ℕ → List (List ℕ) → Hand → State
try_lists g c passive h = record g { hands = set g.hands c h; passive = passive }

-- of the other CPUs nothing changes
tries_leave : (g : State) (c : ℕ) (passive : List (List ℕ)) (h : Hand) → ((d t : ℕ) → d ≢ c → passive_at passive d t ≡ passive_at g.passive d t) → LeavesOthers g c (try_lists g c passive h)
tries_leave g c passive h others = assumption (λ (d : ℕ) (ne : d ≢ c). get_or-set_other g.hands c d h Empty ne, others)

-- one word changes
tried_words : (z : Settings) (words : List ℕ) (g : State) (x : CpuView) (t m : ℕ) (h : Hand) → Good g → Seen g x → t < g.settings.slots → Agrees z words g
    → Agrees z (set words (index z (passive_of x.id t)) m) (with_lists g (try_lists g x.id (with_cell g.passive t x.id m) h))
tried_words z words g x t m h good seen within agrees =
    let g' = with_lists g (put g x.id t m) in
    agrees_same z (set words (index z (passive_of x.id t)) m) g' (handed g' x.id h g.locals) (put_words z words g x.id t m good seen.lt within (put_here g x t m good seen within) agrees) refl
    (λ q there. same_words g' x.id h g.locals q)

-- what the CPU's view shows then
retried : (g : State) (x : CpuView) (passive : List (List ℕ)) (h : Hand) (k : InHand) (references : List Entry) → Good g → CpuShown g x → SameHand h k
    → HandFits g.history g.slots g.marks x.id k
    → ((t : ℕ) (f : Entry) → IsIn f (slot_at g.slots t) → passive_at passive x.id t ≡ references_to f.number references + trying_in t k)
    → ((n : ℕ) → (Occupies g.slots n → ⊥) → references_to n references ≡ 0) → ((f : Entry) → Contains references f → IsAttached x.pass f)
    → CpuShown (with_lists g (try_lists g x.id passive h)) (cpu_view (with_lists g (try_lists g x.id passive h)) x.id (record x { hand = k; references = references }))
retried g x passive h k references good had same fits counts gone attached =
    let seen = seen_of g x good had in assumption (
      subst (λ j. SameHand j k) (sym (get_or-set_same g.hands x.id h Empty seen.in_hands)) same,
      fits,
      had.depth ∙ ap depth_of seen.begin,
      counts,
      gone,
      λ (f : Entry) (found : found_at g x.id ≡ Some f). subst (λ (p : List Change). IsAttached p f) seen.pass (had.found f (seen.found ∙ found)),
      λ (f : Entry) (among : Contains references f). subst (λ (p : List Change). IsAttached p f) seen.pass (attached f among),
      had,
    )

-- The begin

some_limit : (z : Settings) → IsTrue (are_fit z) → 0 < z.passive_limit
some_limit z fit =
    let p = and_parts (are_sizes_fit z) (are_limits_fit z) fit in
    let limits = and_parts (is_within 1 MOST_SECTIONS z.section_limit && is_within 1 MOST_COUNT z.passive_limit) (is_within 1 MOST_COUNT z.count_limit) p.1 in
    let first = and_parts (is_within 1 MOST_SECTIONS z.section_limit) (is_within 1 MOST_COUNT z.passive_limit) limits.0 in
    omega (arith, leb-true 1 z.passive_limit (and_parts (nat_le 1 z.passive_limit) (nat_le z.passive_limit MOST_COUNT) first.1).0)

-- an idle CPU's word of a slot counts its references into that slot, and these are to one entry
word_room : (g : State) (x : CpuView) (t : ℕ) → Good g → CpuShown g x → IsIdle x → ((f : Entry) → Contains x.references f → f.slot ≡ t → references_to f.number x.references < x.settings.passive_limit)
    → passive_at g.passive x.id t < g.settings.passive_limit
word_room g x t good had idle room = by (slot_at g.slots t) refl
  where
    most : x.settings.passive_limit ≡ g.settings.passive_limit
    most = ap (λ (a : Settings). a.passive_limit) (seen_of g x good had).settings

    least : 0 < g.settings.passive_limit
    least = some_limit g.settings good.holds.fit

    counted : (e : Entry) → IsIn e (slot_at g.slots t) → passive_at g.passive x.id t < g.settings.passive_limit
    counted e here =
        let count = had.passive t e here in
        let none = idle_tries x t idle in ⊎_elim
        (λ (some_one : 0 < references_to e.number x.references).
        let one = some_of e.number x.references some_one in
        let same = one_number g.history g.slots t one.entry.slot e one.entry good.holds.slots here (held_known g x one.entry good had one.among).here one.number in
        omega (arith, count, none, subst (λ (n : ℕ). references_to n x.references < x.settings.passive_limit) one.number (room one.entry one.among same.0), most))
        (λ (no_one : references_to e.number x.references ≤ 0). omega (arith, count, none, no_one, least))
        (cases_lt 0 (references_to e.number x.references))

    by : (o : Slot) → slot_at g.slots t ≡ o → passive_at g.passive x.id t < g.settings.passive_limit
    by Vacant is = omega (arith, good.holds.passive.vacant x.id t is, ap (trying_of t) (empty_hand g x had idle.hand), least)
    by (Live e) is = counted e (inl is)
    by (Retired e) is = counted e (inr is)

-- the word of e's slot is one more, and that is tried
tried_counts : (g : State) (x : CpuView) (e : Entry) (m : ℕ) → Good g → CpuShown g x → IsIdle x → e.slot < g.settings.slots → m ≡ passive_at g.passive x.id e.slot + 1
    → (t : ℕ) (f : Entry) → IsIn f (slot_at g.slots t) → passive_at (with_cell g.passive e.slot x.id m) x.id t ≡ references_to f.number x.references + trying_in t (TryingEntry e)
tried_counts g x e m good had idle within is t f here =
    let count = had.passive t f here in
    let none = idle_tries x t idle in ⊎_elim
    (λ (same : t ≡ e.slot).
    let was : passive_at g.passive x.id t ≡ passive_at g.passive x.id e.slot = ap (passive_at g.passive x.id) same in
    omega (arith, count, none, ap (passive_at (with_cell g.passive e.slot x.id m) x.id) same ∙ put_here g x e.slot m good (seen_of g x good had) within, was, trying_here t e (sym same), is))
    (λ (off : t ≡ e.slot → ⊥). omega (arith, count, none, cell_other 0 g.passive e.slot x.id m t x.id (λ same _. off same), trying_elsewhere t e (λ same. off (sym same))))
    (cases_eq t e.slot)

-- the step, for an entry
try_at : (z : Settings) (x : CpuView) (e : Entry) → IsIdle x → e.slot < x.settings.slots → IsAttached x.pass e
    → ((f : Entry) → Contains x.references f → f.slot ≡ e.slot → references_to f.number x.references < x.settings.passive_limit)
    → CpuDoes z x (passive_of x.id e.slot) (λ m. (m + 1) % 2 ^ 64) (Try x.id e.slot e.number) Word (λ v _ y. TriedTold (Try x.id e.slot e.number) v y)
try_at z x e idle inside attached room s r i at fits =
    let g = r.g in
    let had : CpuShown g x = (r.shows.fits i (Cpu x) at).1 in
    let seen = seen_of g x r.good had in
    let within : e.slot < g.settings.slots = subst (λ (a : Settings). e.slot < a.slots) seen.settings inside in
    let old = passive_at g.passive x.id e.slot in
    let below = word_room g x e.slot r.good had idle room in
    let reach : e.number ≤ seen_at g x.id = number_within g.history (seen_at g x.id) e seen.within (subst (λ (p : List Change). IsAttached p e) seen.pass attached) in
    let word = slice_index s.words (index z (passive_of x.id e.slot)) in
    let m = (word + 1) % 2 ^ 64 in
    let stands : word ≡ old = r.words.at (passive_of x.id e.slot) (seen.lt, within) in
    let next : m ≡ old + 1 = omega (arith, stands, below, seen.fit.passive) in
    let h : Hand = Trying e.slot e.number in
    let passive = with_cell g.passive e.slot x.id m in
    let l = try_lists g x.id passive h in
    let own : CpuView = record x { hand = TryingEntry e } in
    let made : step g (Try x.id e.slot e.number) ≡ Some (record { state = with_lists g l; reply = Word word }) =
    rw (idle_of g x seen had idle, le-leb e.number (seen_at g x.id) reach, lt-ltb e.slot g.settings.slots within, lt-ltb old g.settings.passive_limit below)
    (λ k. Some (record { state = with_lists g (try_lists g x.id (with_cell g.passive e.slot x.id (sym next k)) h); reply = Word (sym stands k) })) in
    let leaves = tries_leave g x.id passive h (λ d t ne. cell_other 0 g.passive e.slot x.id m t d (λ _ same. ne same)) in
    let shown = retried g x passive h (TryingEntry e) x.references r.good had (refl, refl) tt (tried_counts g x e m r.good had idle within next) had.gone had.references in
    let words = tried_words z s.words g x e.slot m h r.good seen within r.words in
    let done = cpu_makes z s r i x (index z (passive_of x.id e.slot)) m l (Try x.id e.slot e.number) (Word word) own at made leaves (λ k. refl) refl shown words in
    let y = cpu_view (with_lists g l) x.id own in
    let change : y ≡ record x { hand = TryingEntry e } = ap (λ (v : CpuView). record v { hand = TryingEntry e }) (sym had.is) in
    (Cpu y, done.0, (refl, (done.1, (λ f is number. change ∙ ap (λ (j : Entry). record x { hand = TryingEntry j }) (one_entry x.pass e f attached is (sym number))))))

-- the step, for a slot and a number
pub try_may : (z : Settings) (x : CpuView) (c t n : ℕ) → x.id ≡ c → MayTry x t n → CpuDoes z x (passive_of c t) (λ m. (m + 1) % 2 ^ 64) (Try c t n) Word (λ v _ y. TriedTold (Try c t n) v y)
try_may z x c t n id may = rw (← id, ← may.at.slot, ← may.at.number) (try_at z x may.entry may.idle (subst (λ (u : ℕ). u < x.settings.slots) (sym may.at.slot) may.slot) may.attached (λ f among same. may.room f among (same ∙ may.at.slot)))

-- Back

-- the word of e's slot is one less, and nothing is tried
back_counts : (g : State) (x : CpuView) (e : Entry) (m : ℕ) → Good g → CpuShown g x → IsTrying x e → e.slot < g.settings.slots → m + 1 ≡ passive_at g.passive x.id e.slot
    → (t : ℕ) (f : Entry) → IsIn f (slot_at g.slots t) → passive_at (with_cell g.passive e.slot x.id m) x.id t ≡ references_to f.number x.references + trying_in t NoEntry
back_counts g x e m good had trying within is t f here =
    let count = had.passive t f here in
    let tried : trying_in t x.hand ≡ trying_in t (TryingEntry e) = ap (trying_in t) trying in ⊎_elim
    (λ (same : t ≡ e.slot).
    let was : passive_at g.passive x.id t ≡ passive_at g.passive x.id e.slot = ap (passive_at g.passive x.id) same in
    omega (arith, count, tried, ap (passive_at (with_cell g.passive e.slot x.id m) x.id) same ∙ put_here g x e.slot m good (seen_of g x good had) within, was, trying_here t e (sym same), is))
    (λ (off : t ≡ e.slot → ⊥). omega (arith, count, tried, cell_other 0 g.passive e.slot x.id m t x.id (λ same _. off same), trying_elsewhere t e (λ same. off (sym same))))
    (cases_eq t e.slot)

-- the step, for an entry
back_at : (z : Settings) (x : CpuView) (e : Entry) → IsTrying x e → CpuDoes z x (passive_of x.id e.slot) (λ m. (m + (2 ^ 64 - 1)) % 2 ^ 64) (TakeBack x.id) Word (λ v _ y. HasTakenBack v y)
back_at z x e trying s r i at fits =
    let g = r.g in
    let had : CpuShown g x = (r.shows.fits i (Cpu x) at).1 in
    let seen = seen_of g x r.good had in
    let hand = trying_hand g x e had trying in
    let told = trying_tells g x.id e.slot e.number r.good.holds hand in
    let within : e.slot < g.settings.slots = told.1 in
    let old = passive_at g.passive x.id e.slot in
    let some_one : 1 ≤ old = told.2 in
    let word = slice_index s.words (index z (passive_of x.id e.slot)) in
    let m = (word + (2 ^ 64 - 1)) % 2 ^ 64 in
    let stands : word ≡ old = r.words.at (passive_of x.id e.slot) (seen.lt, within) in
    let next : m ≡ old - 1 = omega (arith, stands, some_one, r.good.holds.passive.limited x.id e.slot, seen.fit.passive) in
    let passive = with_cell g.passive e.slot x.id m in
    let l = try_lists g x.id passive Empty in
    let own : CpuView = record x { hand = NoEntry } in
    let made : step g (TakeBack x.id) ≡ Some (record { state = with_lists g l; reply = Word word }) =
    ap (take_back g x.id) hand ∙ (λ k. Some (record { state = with_lists g (try_lists g x.id (with_cell g.passive e.slot x.id (sym next k)) Empty); reply = Word (sym stands k) })) in
    let leaves = tries_leave g x.id passive Empty (λ d t ne. cell_other 0 g.passive e.slot x.id m t d (λ _ same. ne same)) in
    let shown = retried g x passive Empty NoEntry x.references r.good had tt tt (back_counts g x e m r.good had trying within (omega (arith, next, some_one))) had.gone had.references in
    let words = tried_words z s.words g x e.slot m Empty r.good seen within r.words in
    let done = cpu_makes z s r i x (index z (passive_of x.id e.slot)) m l (TakeBack x.id) (Word word) own at made leaves (λ k. refl) refl shown words in
    let y = cpu_view (with_lists g l) x.id own in
    let change : y ≡ record x { hand = NoEntry } = ap (λ (v : CpuView). record v { hand = NoEntry }) (sym had.is) in
    (Cpu y, done.0, (refl, (done.1, change)))

-- the step, for a slot
pub back_may : (z : Settings) (x : CpuView) (c t : ℕ) → x.id ≡ c → MayTakeBack x t → CpuDoes z x (passive_of c t) (λ m. (m + (2 ^ 64 - 1)) % 2 ^ 64) (TakeBack c) Word (λ v _ y. HasTakenBack v y)
back_may z x c t id may = rw (← id, ← may.slot) (back_at z x may.entry may.trying)

-- The last load, where it finds the number of the entry

-- what was tried is a reference
confirmed_counts : (g : State) (x : CpuView) (e : Entry) → Good g → CpuShown g x → IsTrying x e → IsIn e (slot_at g.slots e.slot)
    → (t : ℕ) (f : Entry) → IsIn f (slot_at g.slots t) → passive_at g.passive x.id t ≡ references_to f.number (e ∷ x.references) + trying_in t NoEntry
confirmed_counts g x e good had trying here t f there =
    let count = had.passive t f there in
    let tried : trying_in t x.hand ≡ trying_in t (TryingEntry e) = ap (trying_in t) trying in ⊎_elim
    (λ (same : t ≡ e.slot).
    let one : f ≡ e = one_in f e (slot_at g.slots e.slot) here (subst (λ (u : ℕ). IsIn f (slot_at g.slots u)) same there) in
    omega (arith, count, tried, to_same f.number e x.references (sym (ap (λ (j : Entry). j.number) one)), trying_here t e (sym same)))
    (λ (off : t ≡ e.slot → ⊥).
    let zero_ = trying_elsewhere t e (λ same. off (sym same)) in
    omega (arith, count, tried, to_other f.number e x.references (λ is. off (one_number g.history g.slots e.slot t e f good.holds.slots here there (sym is)).0), zero_))
    (cases_eq t e.slot)

-- the hand is empty, and all is seen
abbrev confirm_lists : State → ℕ → State
confirm_lists g c = record g { hands = set g.hands c Empty; seen = set g.seen c (length g.history) }

confirms_leave : (g : State) (c : ℕ) → LeavesOthers g c (confirm_lists g c)
confirms_leave g c = assumption (λ (d : ℕ) (ne : d ≢ c). get_or-set_other g.seen c d (length g.history) 0 ne, λ (d : ℕ) (ne : d ≢ c). get_or-set_other g.hands c d Empty Empty ne)

-- what the CPU's view shows then
confirmed_shown : (g : State) (x : CpuView) (e : Entry) → Good g → CpuShown g x → IsTrying x e → IsIn e (slot_at g.slots e.slot) → IsAttached x.pass e → seen_at g x.id ≤ get_or (confirm_lists g x.id).seen x.id 0
    → get_or (confirm_lists g x.id).seen x.id 0 ≤ length g.history
    → CpuShown (with_lists g (confirm_lists g x.id)) (cpu_view (with_lists g (confirm_lists g x.id)) x.id (record x { hand = NoEntry; references = e ∷ x.references }))
confirmed_shown g x e good had trying here attached more within =
    let seen = seen_of g x good had in
    let on : (f : Entry) → IsAttached x.pass f → IsAttached (take (get_or (confirm_lists g x.id).seen x.id 0) g.history) f = λ f was.
    attached_longer g.history (seen_at g x.id) (get_or (confirm_lists g x.id).seen x.id 0) f more within (subst (λ (p : List Change). IsAttached p f) seen.pass was) in assumption (
      subst (λ j. SameHand j NoEntry) (sym (get_or-set_same g.hands x.id Empty Empty seen.in_hands)) tt,
      had.depth ∙ ap depth_of seen.begin,
      confirmed_counts g x e good had trying here,
      λ (k : ℕ) (none : Occupies g.slots k → ⊥). to_other k e x.references (λ is. none (e.slot, e, here, is)) ∙ had.gone k none,
      found_on g x (get_or (confirm_lists g x.id).seen x.id 0) had more within,
      λ (f : Entry) (among : Contains (e ∷ x.references) f). ⊎_elim
          (λ (first : e ≡ f). on f (subst (IsAttached x.pass) first attached))
          (λ (later : Contains x.references f). on f (had.references f later))
          (in_cons e f x.references among),
      had,
    )

-- what the last load must leave and tell, where it found m and made the event
abbrev Ends : (z : Settings) (s : Table ℕ View) → Ruled z s → ℕ → CpuView → ℕ → ℕ → ℕ → Event → Type 0
Ends z s r i x t n m event = (w : View) × GoesOn z s r (did event (Word m)) (stepped s (index z (live_of t)) m i [] w keeps)
    × ((w ≡ Cpu (cpu_of w)) × EndTold n (Confirm x.id) (Recall x.id t) x m (cpu_of w))

confirms : (z : Settings) (s : Table ℕ View) (r : Ruled z s) (i : ℕ) (x : CpuView) (e : Entry) → x.search ≡ None → IsTrying x e → IsAttached x.pass e → e.slot < x.settings.slots
    → get_elem? s.views i ≡ some (Cpu x) → slice_index s.words (index z (live_of e.slot)) ≡ e.number → Ends z s r i x e.slot e.number (slice_index s.words (index z (live_of e.slot))) (Confirm x.id)
confirms z s r i x e idle trying attached inside at same =
    let g = r.g in
    let t = e.slot in
    let m = slice_index s.words (index z (live_of t)) in
    let had : CpuShown g x = (r.shows.fits i (Cpu x) at).1 in
    let seen = seen_of g x r.good had in
    let stands : m ≡ live_at g.lives t = r.words.at (live_of t) (subst (λ (a : Settings). t < a.slots) seen.settings inside) in
    let known : IsAttached g.history e = known_attached g x e seen attached in
    let some_one : 0 < e.number = (attached_within g.history e known).0 in
    let honest : is_honest e.number (slot_at g.slots t) ≡ true = ap (λ (k : ℕ). is_honest k (slot_at g.slots t)) (sym (sym stands ∙ same)) ∙ honest_in z s r t in
    let still : has_live e.number (slot_at g.slots t) ≡ true = honest_tells e.number (slot_at g.slots t) some_one honest in
    let live : IsLiveAt g.history (length g.history) e = (live_is g t e.number e r.good.holds still known refl).0 in
    let here : IsIn e (slot_at g.slots t) = inl (r.good.holds.slots.placed e live) in
    let test : may_confirm g x.id e.number (slot_at g.slots t) ≡ true = and_from (is_none (search_at g x.id)) (has_live e.number (slot_at g.slots t)) (ap is_none (sym seen.search ∙ idle)) still in
    let l = confirm_lists g x.id in
    let fresh : CpuView = record x { hand = NoEntry; references = e ∷ x.references } in
    let y = cpu_view (with_lists g l) x.id fresh in
    let n = length g.history in
    let sees : get_or l.seen x.id 0 ≡ n = get_or-set_same g.seen x.id n 0 seen.in_seen in
    let more : seen_at g x.id ≤ get_or l.seen x.id 0 = omega (arith, seen.within, sees) in
    let few : get_or l.seen x.id 0 ≤ n = omega (arith, sees) in
    let passes : y.pass ≡ g.history = ap (λ k. take k g.history) sees ∙ take_whole g.history in
    let made : step g (Confirm x.id) ≡ Some (record { state = with_lists g l; reply = Word m }) =
    ap (confirm g x.id) (trying_hand g x e had trying) ∙ (ap (λ (b : Bool). guard b (some_outcome (after_confirm g x.id) (Word (live_at g.lives t)))) test
    ∙ (λ k. Some (record { state = with_lists g l; reply = Word (sym stands k) }))) in
    let shown = confirmed_shown g x e r.good had trying here attached more few in
    let words = loaded_words z s.words g l (index z (live_of t)) m refl r.words refl refl refl in
    let done = cpu_makes z s r i x (index z (live_of t)) m l (Confirm x.id) (Word m) fresh at made (confirms_leave g x.id) (λ k. refl) refl shown words in
    let change : y ≡ record x { pass = y.pass; hand = NoEntry; references = e ∷ x.references } =
    ap (λ (v : CpuView). record v { pass = y.pass; hand = NoEntry; references = e ∷ x.references }) (sym had.is) in
    let confirmed : HasConfirmed x y = record {
      entry = e;
      trying = trying;
      is = change;
      longer = subst (λ p. IsPrefix p y.pass) (sym seen.pass) (prefix_longer g.history (seen_at g x.id) (get_or l.seen x.id 0) more few);
      live = subst (λ (p : List Change). IsLiveAt p (length p) e) (sym passes) live;
      alone = alone g x e e.slot e.number r.good had (known_in g x e r.good had here attached) refl refl;
    } in
    (Cpu y, done.0, (refl, ((λ _. (done.1, confirmed)), (λ off. absurd (off same)))))

-- Where it finds another word

too_late : (z : Settings) (s : Table ℕ View) (r : Ruled z s) (i : ℕ) (x : CpuView) (t n : ℕ) → x.search ≡ None → t < x.settings.slots → get_elem? s.views i ≡ some (Cpu x)
    → slice_index s.words (index z (live_of t)) < 18446744073709551616 → (slice_index s.words (index z (live_of t)) ≡ n → ⊥)
    → Ends z s r i x t n (slice_index s.words (index z (live_of t))) (Recall x.id t)
too_late z s r i x t n idle inside at fits off =
    let done = recall_may z x x.id t refl (record { search = idle; slot = inside }) s r i at fits in
    (done.0, done.1, (done.2.0, ((λ same. absurd (off same)), (λ _. (done.2.1.0, done.2.1.1.0.is)))))

end_at : (z : Settings) (x : CpuView) (e : Entry) → x.search ≡ None → IsTrying x e → IsAttached x.pass e → e.slot < x.settings.slots
    → CpuMay z x (index z (live_of e.slot)) (λ m. m) (λ m. did (event_by e.number (Confirm x.id) (Recall x.id e.slot) m) (Word m)) (EndTold e.number (Confirm x.id) (Recall x.id e.slot))
end_at z x e idle trying attached inside s r i at fits =
    let t = e.slot in
    let n = e.number in
    let m = slice_index s.words (index z (live_of t)) in ⊎_elim
    (λ (same : m ≡ n). subst (Ends z s r i x t n m) (sym (ap (λ (b : Bool). if b then Confirm x.id else Recall x.id t) (eq-eqb m n same))) (confirms z s r i x e idle trying attached inside at same))
    (λ (off : m ≡ n → ⊥). subst (Ends z s r i x t n m) (sym (ap (λ (b : Bool). if b then Confirm x.id else Recall x.id t) (ne_eqb m n off))) (too_late z s r i x t n idle inside at fits off))
    (cases_eq m n)

pub end_try_may : (z : Settings) (x : CpuView) (c t n : ℕ) → x.id ≡ c → MayEndTry x t n
    → CpuMay z x (index z (live_of t)) (λ m. m) (λ m. did (event_by n (Confirm c) (Recall c t) m) (Word m)) (EndTold n (Confirm c) (Recall c t))
end_try_may z x c t n id may = rw (← id, ← may.at.slot, ← may.at.number) (end_at z x may.entry may.search may.trying may.attached (subst (λ (u : ℕ). u < x.settings.slots) (sym may.at.slot) may.slot))
