-- A CPU's passive references: what its places say of them, and how they agree with its view as one is added, copied or taken away.
use Rattle.std.proofs.Common.{◌≡◌, ◌≢◌, ◌⊎◌, ⊎_elim, ℕ, ◌<◌, ◌≤◌, List, true, Some, None, nat_lt, ◌==◌, refl, sym, ap, ◌∙◌, subst, arith, ◌+◌, ◌-◌, ◌∷◌, set, get_or-set_same, get_or-set_other, Option, ◌++◌}
use Rattle.std.proofs.lemmas.Bool.{eq-eqb, eqb-true, lt-ltb, ltb-true, and_parts, cases_eq, cases_lt}
use Rattle.std.proofs.lemmas.Option.{none-some}
use Rattle.std.proofs.lemmas.List.Quantifiers.{position-Some}
use Rattle.std.specs.Prelude.{position, Result, Ok, Err, IfErr}
use Rattle.std.specs.List.{Contains}
use Rattle.std.proofs.lemmas.List.{length-set}
use Rattle.atomic_table.specs.Seated.{TableId}
use Rattle.passive_list.specs.Types.{Row, Entry, Settings, CpuView, Refusal, NothingFound, LoadRecord, Passive, Word}
use Rattle.registry_values.specs.Common.{Answers}
use Rattle.protocol.specs.Common.{IsAttached, word, words_of}
use Rattle.protocol.proofs.History.{one_entry, attached_within}
use Rattle.protocol.proofs.Cells.{position_passes}
use Rattle.protocol.proofs.Occupied.{place_cases}
use Rattle.cpu_words.specs.Common.{references_to, IsAt, IsShownCpu, without, IsAloneAt, HasSubtracted, IsWordOf, did}
use Rattle.cpu_words.specs.Passives.{HasAdded}
use Rattle.cpu_words.proofs.shown.ReferenceLists.{counts, some_of, to_same, to_other, in_cons, one_less, others_stay, was_in}
use Rattle.passive_list.specs.Common.{no_place, place_at, PassiveAgree, Memory, IsPlaceOf, IsOurCpu, OnCpu, OnPlainCpu}
use Rattle.passive_list.specs.declared.place.NumberedCount.{NumberedCount}
use Rattle.passive_list.specs.declared.place.Found.{Found}
use Rattle.passive_list.proofs.Agreeing.{slot_within, net_same, IsFoundAs}
use Rattle.passive_ref.specs.{IsHeldAt, counts_for, OnPsref, IsAdded, IsNew, IsAcquired, IsCopied, why_full, why_not_acquired, HasLoaded, has_loaded}

-- What a CPU's places say of its references: where the entry of a number is, and how many references are to it.

-- an entry of the pass with the number of a place was attached in its slot
pub place_of : (x : CpuView) (ps : List NumberedCount) (t : ℕ) (e : Entry) → PassiveAgree x ps → IsAttached x.pass e → (place_at ps t).number ≡ e.number → e.slot ≡ t
place_of x ps t e agree attached same =
    let here = agree.placed t (λ (none : (place_at ps t).number ≡ 0). absurd (omega (arith, same, none, (attached_within x.pass e attached).0))) in
    let one : e ≡ here.entry = one_entry x.pass e here.entry attached here.attached (sym same ∙ sym here.number) in
    ap (λ (f : Entry). f.slot) one ∙ here.slot

-- a place that counts for n is the slot of an entry that the CPU refers to
pub held_at : (x : CpuView) (ps : List NumberedCount) (n t : ℕ) → PassiveAgree x ps → t < x.settings.slots → (place_at ps t).number ≡ n → 0 < (place_at ps t).count → IsHeldAt x t n
held_at x ps n t agree few number some =
    let one = some_of n x.references (omega (arith, some, agree.counts t ∙ ap (λ k. references_to k x.references) number)) in
    let attached = (agree.each one.entry one.among).1 in
    record { entry = one.entry; at = record { slot = place_of x ps t one.entry agree attached (number ∙ sym one.number); number = one.number }; held = one.among; attached = attached; few = few }

-- it counts some
-- no entry has number 0
pub held_begun : (x : CpuView) (t n : ℕ) → IsHeldAt x t n → 0 < n
held_begun x t n held = subst (λ m. 0 < m) held.at.number (attached_within x.pass held.entry held.attached).0

pub held_counts : (x : CpuView) (ps : List NumberedCount) (n t : ℕ) → PassiveAgree x ps → IsHeldAt x t n → 0 < (place_at ps t).count
held_counts x ps n t agree held =
    let number : (place_at ps t).number ≡ n = ap (λ u. (place_at ps u).number) (sym held.at.slot) ∙ (agree.each held.entry held.held).2 ∙ held.at.number in
    omega (arith, agree.counts t ∙ ap (λ k. references_to k x.references) number, counts x.references held.entry n held.held held.at.number)

-- the first place that counts for n
pub held_here : (x : CpuView) (ps : List NumberedCount) (n t : ℕ) → PassiveAgree x ps → position (counts_for n) ps ≡ Some t → IsHeldAt x t n
held_here x ps n t agree is =
    let at = position-Some (counts_for n) ps t no_place is in
    let both = and_parts ((place_at ps t).number == n) (nat_lt 0 (place_at ps t).count) at.1 in
    held_at x ps n t agree (omega (arith, at.0, agree.size)) (eqb-true (place_at ps t).number n both.0) (ltb-true 0 (place_at ps t).count both.1)

-- what the CPU has no entry for, it has no reference to
none_to : (x : CpuView) (n : ℕ) → ((e : Entry) → Contains x.references e → e.number ≡ n → ⊥) → references_to n x.references ≡ 0
none_to x n off = ⊎_elim
    (λ (some : 0 < references_to n x.references). let one = some_of n x.references some in absurd (off one.entry one.among one.number))
    (λ (none : references_to n x.references ≤ 0). omega (arith, none))
    (cases_lt 0 (references_to n x.references))

-- where no place counts for n, the CPU has no reference to it
pub none_here : (x : CpuView) (ps : List NumberedCount) (n : ℕ) → PassiveAgree x ps → position (counts_for n) ps ≡ None → references_to n x.references ≡ 0
none_here x ps n agree is = none_to x n (λ e among same.
    let its = agree.each e among in
    let number : (place_at ps e.slot).number ≡ n = its.2 ∙ same in
    let counted : 0 < (place_at ps e.slot).count = omega (arith, agree.counts e.slot ∙ ap (λ k. references_to k x.references) number, counts x.references e n among same) in
    let test : counts_for n (place_at ps e.slot) ≡ true = rw (eq-eqb (place_at ps e.slot).number n number, lt-ltb 0 (place_at ps e.slot).count counted) refl in
    let found = position_passes (counts_for n) ps e.slot no_place (omega (arith, its.0, agree.size)) test in
    none-some found.0 (sym is ∙ found.1))

-- an entry that the CPU found last or refers to is in the pass
pub known_attached : (x : CpuView) (ps : List NumberedCount) (e : Entry) → PassiveAgree x ps → ((f : Entry) → x.found ≡ Some f → IsAttached x.pass f) → (x.found ≡ Some e) ⊎ Contains x.references e
    → IsAttached x.pass e
known_attached x ps e agree seen known = ⊎_elim (λ (found : x.found ≡ Some e). seen e found) (λ (among : Contains x.references e). (agree.each e among).1) known

-- an entry that the CPU found last or refers to is in a slot of its table
pub within : (x : CpuView) (z : Settings) (t n : ℕ) (e : Entry) → IsShownCpu x → x.settings ≡ z → IsAt e t n → (x.found ≡ Some e) ⊎ Contains x.references e → t < z.slots
within x z t n e shown same at has = subst (λ (y : Settings). t < y.slots) same (subst (λ (u : ℕ). u < x.settings.slots) at.slot (slot_within x e shown has))

-- where the place of an entry's slot is of another number, the CPU has no reference to that entry
pub uncounted_here : (x : CpuView) (ps : List NumberedCount) (t n : ℕ) (e : Entry) → PassiveAgree x ps → IsAt e t n → IsAttached x.pass e → (place_at ps t).number ≢ n
    → references_to n x.references ≡ 0
uncounted_here x ps t n e agree at attached off = none_to x n (λ f among number.
    let its = agree.each f among in
    let slot : f.slot ≡ t = ap (λ (g : Entry). g.slot) (one_entry x.pass f e its.1 attached (number ∙ sym at.number)) ∙ at.slot in
    off (sym (ap (λ u. (place_at ps u).number) slot) ∙ its.2 ∙ number))

-- A CPU's plain data agree with its view as one reference is added, or taken away.

-- an entry of the pass and the place of another slot have different numbers
apart : (x : CpuView) (ps : List NumberedCount) (e : Entry) (t u : ℕ) → PassiveAgree x ps → e.slot ≡ t → IsAttached x.pass e → u ≢ t → (place_at ps u).number ≢ e.number
apart x ps e t u agree at attached off same = off (sym (place_of x ps u e agree attached same) ∙ at)

-- one reference more
pub added_passive : (x : CpuView) (ps : List NumberedCount) (e : Entry) (t n m : ℕ) → PassiveAgree x ps → IsAt e t n → IsAttached x.pass e → t < x.settings.slots → IsAloneAt x t n
    → m ≡ references_to n x.references
    → PassiveAgree (record x { references = e ∷ x.references }) (set ps t (record { number = n; count = m + 1 }))
added_passive x ps e t n m agree at attached few alone is = record {
  size = length-set ps t new ∙ agree.size;
  counts = λ u. ⊎_elim
      (λ (on : (u ≡ t) × (place_at (set ps t new) u ≡ new)).
      let one : m + 1 ≡ references_to n (e ∷ x.references) = omega (arith, to_same n e x.references at.number, is) in
      subst (λ (p : NumberedCount). p.count ≡ references_to p.number (e ∷ x.references)) (sym on.1) one)
      (λ (off : (u ≡ t → ⊥) × (place_at (set ps t new) u ≡ place_at ps u)).
      let old = to_other (place_at ps u).number e x.references (λ q. apart x ps e t u agree at.slot attached off.0 (sym q)) in
      subst (λ (p : NumberedCount). p.count ≡ references_to p.number (e ∷ x.references)) (sym off.1) (agree.counts u ∙ sym old))
      (cases u);
  placed = λ u some. ⊎_elim
      (λ (on : (u ≡ t) × (place_at (set ps t new) u ≡ new)). subst (λ (p : NumberedCount). IsPlaceOf x.pass u p.number) (sym on.1)
      record { entry = e; attached = attached; slot = at.slot ∙ sym on.0; number = at.number })
      (λ (off : (u ≡ t → ⊥) × (place_at (set ps t new) u ≡ place_at ps u)).
      subst (λ (p : NumberedCount). IsPlaceOf x.pass u p.number) (sym off.1) (agree.placed u (λ q. some (ap (λ (p : NumberedCount). p.number) off.1 ∙ q))))
      (cases u);
  each = λ f among. ⊎_elim
      (λ (same : e ≡ f). subst (λ (h : Entry). (h.slot < x.settings.slots) × IsAttached x.pass h × ((place_at (set ps t new) h.slot).number ≡ h.number) × (0 < h.number)) same
      (omega (arith, few, at.slot), attached, here e at.slot ∙ sym at.number, (attached_within x.pass e attached).0))
      (λ (old : Contains x.references f).
      let had = agree.each f old in
      let number : (place_at (set ps t new) f.slot).number ≡ f.number = ⊎_elim
      (λ (same : f.slot ≡ t). here f same ∙ sym (alone f old same))
      (λ (off : f.slot ≢ t). ap (λ (p : NumberedCount). p.number) (get_or-set_other ps t f.slot new no_place off) ∙ had.2)
      (cases_eq f.slot t) in
      (had.0, had.1, number, had.3))
      (in_cons e f x.references among);
}
  where
    new : NumberedCount
    new = record { number = n; count = m + 1 }

    cases : (u : ℕ) → ((u ≡ t) × (place_at (set ps t new) u ≡ new)) ⊎ ((u ≡ t → ⊥) × (place_at (set ps t new) u ≡ place_at ps u))
    cases u = place_cases no_place ps t new u (omega (arith, agree.size, few))

    here : (f : Entry) → f.slot ≡ t → (place_at (set ps t new) f.slot).number ≡ n
    here f same = ap (λ v. (place_at (set ps t new) v).number) same ∙ ap (λ (p : NumberedCount). p.number) (get_or-set_same ps t new no_place (omega (arith, agree.size, few)))

-- one reference less
pub less_passive : (x : CpuView) (ps : List NumberedCount) (e : Entry) (t n : ℕ) → PassiveAgree x ps → IsAt e t n → Contains x.references e
    → PassiveAgree (record x { references = without n x.references }) (set ps t (record { number = (place_at ps t).number; count = (place_at ps t).count - 1 }))
less_passive x ps e t n agree at among = record {
  size = length-set ps t new ∙ agree.size;
  counts = λ u. ⊎_elim
      (λ (on : (u ≡ t) × (place_at (set ps t new) u ≡ new)).
      let old : (place_at ps t).count ≡ references_to n x.references = agree.counts t ∙ ap (λ k. references_to k x.references) number in
      let one : (place_at ps t).count - 1 ≡ references_to n (without n x.references) = omega (arith, old, one_less n x.references (counts x.references e n among at.number)) in
      subst (λ (p : NumberedCount). p.count ≡ references_to p.number (without n x.references)) (sym on.1) (one ∙ ap (λ k. references_to k (without n x.references)) (sym number)))
      (λ (off : (u ≡ t → ⊥) × (place_at (set ps t new) u ≡ place_at ps u)).
      let other = others_stay n (place_at ps u).number x.references (λ q. apart x ps e t u agree at.slot its.1 off.0 (q ∙ sym at.number)) in
      subst (λ (p : NumberedCount). p.count ≡ references_to p.number (without n x.references)) (sym off.1) (agree.counts u ∙ sym other))
      (cases u);
  placed = λ u some. subst (λ k. IsPlaceOf x.pass u k) (sym (same_number u)) (agree.placed u (λ q. some (same_number u ∙ q)));
  each = λ f left. let old = agree.each f (was_in n x.references f left) in (old.0, old.1, same_number f.slot ∙ old.2, old.3);
}
  where
    new : NumberedCount
    new = record { number = (place_at ps t).number; count = (place_at ps t).count - 1 }

    its : (e.slot < x.settings.slots) × IsAttached x.pass e × ((place_at ps e.slot).number ≡ e.number) × (0 < e.number)
    its = agree.each e among

    cases : (u : ℕ) → ((u ≡ t) × (place_at (set ps t new) u ≡ new)) ⊎ ((u ≡ t → ⊥) × (place_at (set ps t new) u ≡ place_at ps u))
    cases u = place_cases no_place ps t new u (omega (arith, its.0, at.slot, agree.size))

    number : (place_at ps t).number ≡ n
    number = ap (λ v. (place_at ps v).number) (sym at.slot) ∙ its.2 ∙ at.number

    same_number : (u : ℕ) → (place_at (set ps t new) u).number ≡ (place_at ps u).number
    same_number u = ⊎_elim
        (λ (on : (u ≡ t) × (place_at (set ps t new) u ≡ new)). ap (λ (p : NumberedCount). p.number) on.1 ∙ ap (λ v. (place_at ps v).number) (sym on.0))
        (λ (off : (u ≡ t → ⊥) × (place_at (set ps t new) u ≡ place_at ps u)). ap (λ (p : NumberedCount). p.number) off.1)
        (cases u)

-- a CPU with other references, and places that agree with them
with_references : (z : TableId) (a : Settings) (t u : TableId) (x : CpuView) (c : Row) (w d : ℕ) (o : Found) (ps qs ns : List NumberedCount) (ms : Memory) (references : List Entry)
    → IsOurCpu z a t x c w d o ps ns ms → u ≡ t → IsShownCpu (record x { references = references }) → PassiveAgree (record x { references = references }) qs
    → IsOurCpu z a u (record x { references = references }) c w d o qs ns ms
with_references z a t u x c w d o ps qs ns ms references our same is_shown agree =
    assumption (same ∙ our.table, net_same x (record x { references = references }) ns refl refl refl refl our.net, our)

-- a reference was added
pub added_agrees : (z : TableId) (a : Settings) (t u : TableId) (x y : CpuView) (c : Row) (w d : ℕ) (o : Found) (ps ns : List NumberedCount) (ms : Memory) (s n m : ℕ)
    → IsOurCpu z a t x c w d o ps ns ms → u ≡ t → IsShownCpu y → HasAdded x s n y → s < x.settings.slots → IsAloneAt x s n → m ≡ references_to n x.references
    → IsOurCpu z a u y c w d o (set ps s (record { number = n; count = m + 1 })) ns ms
added_agrees z a t u x y c w d o ps ns ms s n m our same is_shown had few alone is = subst (λ (v : CpuView). IsOurCpu z a u v c w d o (set ps s (record { number = n; count = m + 1 })) ns ms) (sym had.3)
    (with_references z a t u x c w d o ps (set ps s (record { number = n; count = m + 1 })) ns ms (had.0 ∷ x.references) our same (subst IsShownCpu had.3 is_shown)
    (added_passive x ps had.0 s n m our.passive had.1 had.2 few alone is))

-- a reference was taken away
pub less_agrees : (z : TableId) (a : Settings) (t u : TableId) (x y : CpuView) (c : Row) (w d : ℕ) (o : Found) (ps ns : List NumberedCount) (ms : Memory) (e : Entry) (s n : ℕ)
    → IsOurCpu z a t x c w d o ps ns ms → u ≡ t → IsShownCpu y → IsAt e s n → Contains x.references e → HasSubtracted x n y
    → IsOurCpu z a u y c w d o (set ps s (record { number = (place_at ps s).number; count = (place_at ps s).count - 1 })) ns ms
less_agrees z a t u x y c w d o ps ns ms e s n our same is_shown at among had =
    subst (λ (v : CpuView). IsOurCpu z a u v c w d o (set ps s (record { number = (place_at ps s).number; count = (place_at ps s).count - 1 })) ns ms) (sym had)
    (with_references z a t u x c w d o ps _ ns ms (without n x.references) our same (subst IsShownCpu had is_shown) (less_passive x ps e s n our.passive at among))

-- A reference that was added is to the entry that was known.

-- of the last found entry, by what is kept of it
pub acquired : (k : Found) (a b : OnCpu) (r : Result OnPsref Refusal) → IsFoundAs a.view k → Answers (why_full a.view k.number) (IsAdded k.slot k.number a b) r
    → Answers (why_not_acquired a.view a.view.found) (IsAcquired a b) r
acquired k a b r kept answer = subst (λ (o : Option Entry). Answers (why_not_acquired a.view o) (IsAcquired a b) r) (sym kept.found)
    (subst (λ n. Answers (why_full a.view n) (IsAcquired a b) r) kept.number (with_answer r answer))
  where
    with_answer : (s : Result OnPsref Refusal) → Answers (why_full a.view k.number) (IsAdded k.slot k.number a b) s → Answers (why_full a.view k.number) (IsAcquired a b) s
    with_answer (Ok p) (room, added) =
        let one : added.0 ≡ kept.entry = one_entry a.view.pass added.0 kept.entry added.2 kept.attached (added.1.number ∙ kept.number) in
        (room, (kept.entry, kept.found, subst (λ (f : Entry). IsNew f a b p) one added.3))
    with_answer (Err f) had = had

pub not_acquired : (a b : OnCpu) → a.view.found ≡ None → Answers (why_not_acquired a.view a.view.found) (IsAcquired a b) (Err NothingFound)
not_acquired a b none = subst (λ (o : Option Entry). Answers (why_not_acquired a.view o) (IsAcquired a b) (Err NothingFound)) (sym none) refl

-- of an entry that the CPU refers to
pub copied : (a b : OnCpu) (t n : ℕ) (r : Result OnPsref Refusal) → IsHeldAt a.view t n → Answers (why_full a.view n) (IsAdded t n a b) r → Answers (why_full a.view n) (IsCopied n a b) r
copied a b t n (Ok p) held (room, added) =
    let one : added.0 ≡ held.entry = one_entry a.view.pass added.0 held.entry added.2 held.attached (added.1.number ∙ sym held.at.number) in
    (room, (held.entry, held.held, held.at.number, subst (λ (f : Entry). IsNew f a b p) one added.3))
copied a b t n (Err f) held had = had

pub held_some : (x : CpuView) (t n : ℕ) → IsHeldAt x t n → 0 < references_to n x.references
held_some x t n held = counts x.references held.entry n held.held held.at.number

-- one that is refused changes nothing
pub refused_cpu : (a b : OnPlainCpu) (r : Result OnPsref Refusal) → IfErr r (λ _. b ≡ a) → IfErr r (λ _. b.cpu ≡ a.cpu)
refused_cpu a b (Ok p) same = tt
refused_cpu a b (Err f) same = ap (λ (o : OnPlainCpu). o.cpu) same

-- The words of a record, loaded while the CPU's view stays as it was.

-- a word that was loaded is the entry's
pub word_is : (x y : CpuView) (t n k m : ℕ) (held : IsHeldAt x t n) → y ≡ x → IsWordOf y t n k m → m ≡ word (words_of held.entry) k
word_is x y t n k m held same loaded = subst (λ (v : CpuView). IsWordOf v t n k m) same loaded held.entry held.at held.held

-- the CPU as it has loaded the word k of e
abbrev pub after_load : Entry → ℕ → OnCpu → OnCpu
after_load e k a = record a { log = a.log ++ has_loaded a.view.id e k }

-- the word m that was loaded by the number n is the entry's
pub after_word : (a b : OnCpu) (e : Entry) (n k m : ℕ) → b ≡ record a { log = a.log ++ did (LoadRecord (Passive a.view.id n k)) (Word m) } → e.number ≡ n → m ≡ word (words_of e) k
    → b ≡ after_load e k a
after_word a b e n k m is number same = is ∙ (λ i. record a { log = a.log ++ did (LoadRecord (Passive a.view.id (sym number i) k)) (Word (same i)) })

pub all_loaded : (a b0 b1 b2 b3 : OnCpu) (e : Entry) → b0 ≡ after_load e 1 a → b1 ≡ after_load e 2 b0 → b2 ≡ after_load e 3 b1 → b3 ≡ after_load e 4 b2 → HasLoaded e a b3
all_loaded a b0 b1 b2 b3 e first second third fourth = fourth ∙ ap (after_load e 4) (third ∙ ap (after_load e 3) (second ∙ ap (after_load e 2) first))
