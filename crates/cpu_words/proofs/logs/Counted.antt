-- What the keeper's log says of counts: which entry each slot has, and the count words that were collected for it, which are net counts.
use Rattle.std.proofs.Common.{◌≡◌, ℕ, suc, inr, ⊎_elim, ◌+◌, ◌<◌, ◌==◌, ◌&&◌, ◌-◌, Bool, true, false, not, if◌then◌else◌, List, [], ◌∷◌, ◌++◌, length, set, replicate, Option, Some, None, eq-eqb, ne_eqb, refl, sym, ap, ◌∙◌, arith, ◌≢◌, ◌⊎◌, inl, length-set}
use Rattle.std.proofs.lemmas.Bool.{and_parts, cases_eq, eqb-true}
use Rattle.cpu_words.specs.Types.{Entry, Mark, Settings, MOST_CPUS, Slot, Vacant, Live, Retired, Event, Publish, Unpublish, Republish, Collect, KeptSub, Vacate, Reply, Done, Word, Ref, Empty, Giving}
use Rattle.registry_values.specs.Common.{bias, no_mark, mark_after_look, mark_after_passive_look, mark_after_collect, is_retired, slot_at}
use Rattle.protocol.specs.Common.{State, opening, with_cell, section_at, mark_at, passive_at, count_at, after_publish, after_collect, may_collect, snapshot_mark, may_publish, may_examine, is_drainable, is_drained, Holds, IsCounting}
use Rattle.protocol.proofs.Made.{Made, Publishes, Unpublishes, Republishes, Snaps, Looks, LooksPassive, Counts, CountsDown, Collects, SubsKept, Vacates}
use Rattle.protocol.proofs.counts.Counts.{is_counting, not_both}
use Rattle.protocol.proofs.keeps.CountKeeps.{hand_within, held_counting}
use Rattle.protocol.proofs.keeps.ListKeeps.{may_publish_tells, false_from}
use Rattle.protocol.proofs.keeps.MarkKeeps.{is_drained_tells, mark_place, may_examine_tells}
use Rattle.protocol.proofs.keeps.References.{snapshot_due_tells}
use Rattle.protocol.proofs.keeps.Replacing.{may_republish_tells}
use Rattle.protocol.proofs.Either.{either}
use Rattle.protocol.proofs.keeps.Linking.{within_live, within_retired}
use Rattle.protocol.proofs.Cells.{by_cell, cell_cases, cell_here, cell_in_old, cell_other, get_or_all, place_put, cell_put}
use Rattle.protocol.proofs.Occupied.{is_retired_tells, slot_cases, slot_has}
use Rattle.cpu_words.specs.Common.{LogItem, Teller, by_number, reply_without_id, changes_of, changes_in, occupant_after, occupant_from, occupant, replied, word_after, word_from, word_collected, occupant_of, word_if, is_drawn, word_in, AreCountsOf, maker, IsSeatOf}
use Rattle.cpu_words.proofs.logs.Loads.{moves_past}
use Rattle.cpu_words.proofs.logs.Marks.{fresh}
use Rattle.cpu_words.proofs.logs.Runs.{item_of}

-- One event

-- what it makes of the slots' entries and of the collected words
abbrev pub Does : State → Event → Reply → State → Type 0
Does s e r n = ((u : ℕ) → occupant_of (slot_at n.slots u) ≡ occupant_after u (length s.history) e (occupant_of (slot_at s.slots u))) × ((u d : ℕ) → word_in n u d ≡ word_after u d e r (word_in s u d))

-- Words

pub no_word : (s : State) (u d : ℕ) → is_drawn s u d ≡ false → word_in s u d ≡ None
no_word s u d is = ap (λ (b : Bool). word_if b (count_at s.nets d u)) is

same_word : (s n : State) (u d : ℕ) → is_drawn n u d ≡ is_drawn s u d → (is_drawn s u d ≡ true → count_at n.nets d u ≡ count_at s.nets d u) → word_in n u d ≡ word_in s u d
same_word s n u d same nets = by (is_drawn s u d) refl
  where
    by : (b : Bool) → is_drawn s u d ≡ b → word_in n u d ≡ word_in s u d
    by true is = let net = nets is in λ k. word_if (same k) (net k)
    by false is = no_word n u d (same ∙ is) ∙ sym (no_word s u d is)

pub undrawn_slot : (s : State) (u d : ℕ) → is_retired (slot_at s.slots u) ≡ false → is_drawn s u d ≡ false
undrawn_slot s u d is = ap (λ (b : Bool). b && (mark_at s.marks u d).collected) is

pub undrawn_mark : (s : State) (u d : ℕ) → (mark_at s.marks u d).collected ≡ false → is_drawn s u d ≡ false
undrawn_mark s u d is = by (is_retired (slot_at s.slots u)) refl
  where
    by : (b : Bool) → is_retired (slot_at s.slots u) ≡ b → is_drawn s u d ≡ false
    by true at = λ k. at k && is k
    by false at = undrawn_slot s u d at

marked_word : (s n : State) (t c : ℕ) (m : Mark) → n.slots ≡ s.slots → n.nets ≡ s.nets → n.marks ≡ with_cell s.marks t c m → m.collected ≡ (mark_at s.marks t c).collected → (u d : ℕ)
    → word_in n u d ≡ word_in s u d
marked_word s n t c m slots nets marks same u d =
    let flag = ap (λ (x : List (List Mark)). (mark_at x u d).collected) marks ∙ cell_put no_mark s.marks t c m (λ v e x. x.collected ≡ (mark_at s.marks v e).collected) u d same refl in
    same_word s n u d (λ k. is_retired (slot_at (slots k) u) && flag k) (λ on. ap (λ (x : List (List ℕ)). count_at x d u) nets)

-- Attach, detach, and the end of a slot's use

other_slot : (s n : State) (t : ℕ) (u : ℕ) → slot_at n.slots u ≡ slot_at s.slots u → ((d : ℕ) → (mark_at n.marks u d).collected ≡ (mark_at s.marks u d).collected)
    → ((d : ℕ) → count_at n.nets d u ≡ count_at s.nets d u) → (d : ℕ) → word_in n u d ≡ word_in s u d
other_slot s n t u slot mark net d = let flag = mark d in same_word s n u d (λ k. is_retired (slot k) && flag k) (λ on. net d)

retired_does : (s n : State) (t : ℕ) (e : Entry) → n.slots ≡ set s.slots t (Retired e) → n.marks ≡ set s.marks t (replicate MOST_CPUS no_mark) → n.nets ≡ s.nets → slot_at s.slots t ≡ Live e
    → Does s (Unpublish t) Done n
retired_does s n t e slots marks nets live =
    let lt = within_live s.slots t e live in (
      λ u. ap (λ (x : List Slot). occupant_of (slot_at x u)) slots
          ∙ place_put Vacant s.slots t (Retired e) (λ v x. occupant_of x ≡ occupant_of (slot_at s.slots v)) u (sym (ap occupant_of live)) refl,
      λ u d. ⊎_elim
          (λ (here : (u ≡ t) × (slot_at (set s.slots t (Retired e)) u ≡ Retired e)).
          let new : mark_at n.marks u d ≡ no_mark =
          ap (λ (x : List (List Mark)). mark_at x u d) marks ∙ (ap (λ (k : ℕ). mark_at (set s.marks t (replicate MOST_CPUS no_mark)) k d) here.0 ∙ fresh s.marks t d) in
          no_word n u d (undrawn_mark n u d (ap (λ (m : Mark). m.collected) new)) ∙ sym (no_word s u d (undrawn_slot s u d (ap is_retired (ap (slot_at s.slots) here.0 ∙ live)))))
          (λ (old : (u ≡ t → ⊥) × (slot_at (set s.slots t (Retired e)) u ≡ slot_at s.slots u)).
          other_slot s n t u (ap (λ (x : List Slot). slot_at x u) slots ∙ old.1)
          (λ j. ap (λ (x : List (List Mark)). (mark_at x u j).collected) marks ∙ ap (λ (m : Mark). m.collected) (cell_in_old no_mark s.marks t (replicate MOST_CPUS no_mark) u j old.0))
          (λ j. ap (λ (x : List (List ℕ)). count_at x j u) nets) d)
          (slot_cases s.slots t (Retired e) u lt),
    )

published_does : (s : State) (t : ℕ) (e : Entry) → Holds s → may_publish s t e ≡ true → Does s (Publish t) Done (after_publish s t e)
published_does s t e on may =
    let told = may_publish_tells s t e on.shape may in
    let number = told.number in
    let n = after_publish s t e in
    let new = set s.slots t (Live e) in (
      λ u. ⊎_elim
          (λ (here : (u ≡ t) × (slot_at new u ≡ Live e)).
          ap occupant_of here.1 ∙ (ap (λ (k : ℕ). Some k) number ∙ sym (ap (λ (b : Bool). if b then Some (suc (length s.history)) else occupant_of (slot_at s.slots u)) (eq-eqb t u (sym here.0)))))
          (λ (old : (u ≡ t → ⊥) × (slot_at new u ≡ slot_at s.slots u)).
          ap occupant_of old.1 ∙ sym (ap (λ (b : Bool). if b then Some (suc (length s.history)) else occupant_of (slot_at s.slots u)) (ne_eqb t u (λ (same : t ≡ u). old.0 (sym same)))))
          (slot_cases s.slots t (Live e) u told.within),
      λ u d. ⊎_elim
          (λ (here : (u ≡ t) × (slot_at new u ≡ Live e)).
          no_word n u d (undrawn_slot n u d (ap is_retired here.1)) ∙ sym (no_word s u d (undrawn_slot s u d (ap is_retired (ap (slot_at s.slots) here.0 ∙ told.vacant)))))
          (λ (old : (u ≡ t → ⊥) × (slot_at new u ≡ slot_at s.slots u)).
          other_slot s n t u old.1 (λ j. refl) (λ j. cell_in_old 0 s.nets t (replicate MOST_CPUS bias) u j old.0) d)
          (slot_cases s.slots t (Live e) u told.within),
    )

-- the slot t gets the entry e as u is retired
republished_does : (s n : State) (t u : ℕ) (e f : Entry) → t < length s.slots → slot_at s.slots t ≡ Vacant → slot_at s.slots u ≡ Live f → e.number ≡ suc (length s.history)
    → n.slots ≡ set (set s.slots t (Live e)) u (Retired f) → n.marks ≡ set s.marks u (replicate MOST_CPUS no_mark) → n.nets ≡ set s.nets t (replicate MOST_CPUS bias) → Does s (Republish t u) Done n
republished_does s n t u e f lt vacant at number slots marks nets =
    let first : List Slot = set s.slots t (Live e) in
    let new : List Slot = set first u (Retired f) in
    let apart : t ≢ u = λ same. (let q : Vacant ≡ Live f = sym vacant ∙ (ap (slot_at s.slots) same ∙ at) in cc) in
    let lu : u < length first = omega (arith, within_live s.slots u f at, length-set s.slots t (Live e)) in
    let is_at : (v : ℕ) → ((v ≡ u) × (slot_at n.slots v ≡ Retired f)) ⊎ (((v ≡ u → ⊥) × (v ≡ t) × (slot_at n.slots v ≡ Live e)) ⊎ ((v ≡ u → ⊥) × (v ≡ t → ⊥) × (slot_at n.slots v ≡ slot_at s.slots v))) = λ v. ⊎_elim
    (λ (here : (v ≡ u) × (slot_at new v ≡ Retired f)). inl (here.0, ap (λ (x : List Slot). slot_at x v) slots ∙ here.1))
    (λ (off : (v ≡ u → ⊥) × (slot_at new v ≡ slot_at first v)). ⊎_elim
    (λ (there : (v ≡ t) × (slot_at first v ≡ Live e)). inr (inl (off.0, there.0, ap (λ (x : List Slot). slot_at x v) slots ∙ (off.1 ∙ there.1))))
    (λ (old : (v ≡ t → ⊥) × (slot_at first v ≡ slot_at s.slots v)). inr (inr (off.0, old.0, ap (λ (x : List Slot). slot_at x v) slots ∙ (off.1 ∙ old.1))))
    (slot_cases s.slots t (Live e) v lt))
    (slot_cases first u (Retired f) v lu) in (
      λ v. either (is_at v)
          (λ here. ap occupant_of here.1 ∙ (sym (ap occupant_of (ap (slot_at s.slots) here.0 ∙ at))
          ∙ sym (ap (λ (b : Bool). if b then Some (suc (length s.history)) else occupant_of (slot_at s.slots v)) (ne_eqb t v (λ (same : t ≡ v). apart (same ∙ here.0))))))
          (λ rest. either rest
          (λ there. ap occupant_of there.2 ∙ (ap (λ (k : ℕ). Some k) number
          ∙ sym (ap (λ (b : Bool). if b then Some (suc (length s.history)) else occupant_of (slot_at s.slots v)) (eq-eqb t v (sym there.1)))))
          (λ old. ap occupant_of old.2 ∙ sym (ap (λ (b : Bool). if b then Some (suc (length s.history)) else occupant_of (slot_at s.slots v)) (ne_eqb t v (λ (same : t ≡ v). old.1 (sym same)))))),
      λ v d. either (is_at v)
          (λ here.
          let blank : mark_at n.marks v d ≡ no_mark =
          ap (λ (x : List (List Mark)). mark_at x v d) marks ∙ (ap (λ (k : ℕ). mark_at (set s.marks u (replicate MOST_CPUS no_mark)) k d) here.0 ∙ fresh s.marks u d) in
          no_word n v d (undrawn_mark n v d (ap (λ (m : Mark). m.collected) blank)) ∙ sym (no_word s v d (undrawn_slot s v d (ap is_retired (ap (slot_at s.slots) here.0 ∙ at)))))
          (λ rest. either rest
          (λ there.
          no_word n v d (undrawn_slot n v d (ap is_retired there.2)) ∙ sym (no_word s v d (undrawn_slot s v d (ap is_retired (ap (slot_at s.slots) there.1 ∙ vacant)))))
          (λ old.
          other_slot s n t v old.2
          (λ j. ap (λ (x : List (List Mark)). (mark_at x v j).collected) marks ∙ ap (λ (m : Mark). m.collected) (cell_in_old no_mark s.marks u (replicate MOST_CPUS no_mark) v j old.0))
          (λ j. ap (λ (x : List (List ℕ)). count_at x j v) nets ∙ cell_in_old 0 s.nets t (replicate MOST_CPUS bias) v j old.1) d)),
    )

-- the slot is vacant then

abbrev IsVacantAfter : State → ℕ → State → Type 0
IsVacantAfter s t n = ((u : ℕ) → occupant_of (slot_at n.slots u) ≡ (if t == u then None else occupant_of (slot_at s.slots u))) × ((u d : ℕ) → word_in n u d ≡ (if t == u then None else word_in s u d))

vacated_does : (s n : State) (t : ℕ) → Holds s → is_drained s t ≡ true → n.slots ≡ set s.slots t Vacant → n.marks ≡ s.marks → n.nets ≡ s.nets → IsVacantAfter s t n
vacated_does s n t on drained slots marks nets =
    let told = is_drained_tells s t on drained in
    let lt : t < length s.slots = within_retired s.slots t told.1.0 told.1.1 in
    let new = set s.slots t Vacant in (
      λ u. ap (λ (x : List Slot). occupant_of (slot_at x u)) slots ∙ ⊎_elim
          (λ (here : (u ≡ t) × (slot_at new u ≡ Vacant)). ap occupant_of here.1 ∙ sym (ap (λ (b : Bool). if b then None else occupant_of (slot_at s.slots u)) (eq-eqb t u (sym here.0))))
          (λ (old : (u ≡ t → ⊥) × (slot_at new u ≡ slot_at s.slots u)). ap occupant_of old.1
          ∙ sym (ap (λ (b : Bool). if b then None else occupant_of (slot_at s.slots u)) (ne_eqb t u (λ (same : t ≡ u). old.0 (sym same)))))
          (slot_cases s.slots t Vacant u lt),
      λ u d. ⊎_elim
          (λ (here : (u ≡ t) × (slot_at new u ≡ Vacant)).
          no_word n u d (undrawn_slot n u d (ap (λ (x : List Slot). is_retired (slot_at x u)) slots ∙ ap is_retired here.1))
          ∙ sym (ap (λ (b : Bool). if b then None else word_in s u d) (eq-eqb t u (sym here.0))))
          (λ (old : (u ≡ t → ⊥) × (slot_at new u ≡ slot_at s.slots u)).
          other_slot s n t u (ap (λ (x : List Slot). slot_at x u) slots ∙ old.1) (λ j. ap (λ (x : List (List Mark)). (mark_at x u j).collected) marks)
          (λ j. ap (λ (x : List (List ℕ)). count_at x j u) nets) d
          ∙ sym (ap (λ (b : Bool). if b then None else word_in s u d) (ne_eqb t u (λ (same : t ≡ u). old.0 (sym same)))))
          (slot_cases s.slots t Vacant u lt),
    )

-- Counts

-- a net count changes only where the word counts
counted_word : (s n : State) (c t v : ℕ) → IsCounting s.slots s.marks c t → n.slots ≡ s.slots → n.marks ≡ s.marks → n.nets ≡ with_cell s.nets t c v → (u d : ℕ) → word_in n u d ≡ word_in s u d
counted_word s n c t v counting slots marks nets u d =
    same_word s n u d (λ k. is_retired (slot_at (slots k) u) && (mark_at (marks k) u d).collected) (λ drawn. ap (λ (x : List (List ℕ)). count_at x d u) nets ∙ ⊎_elim
    (λ (p : (u ≡ t) × (d ≡ c) × (count_at (with_cell s.nets t c v) d u ≡ v)).
    let parts = and_parts (is_retired (slot_at s.slots t)) (mark_at s.marks t c).collected
    ((λ k. is_retired (slot_at s.slots (sym p.0 k)) && (mark_at s.marks (sym p.0 k) (sym p.1 k)).collected) ∙ drawn) in
    let gone = is_retired_tells (slot_at s.slots t) parts.0 in
    absurd (not_both s.slots s.marks c t gone.0 counting gone.1 parts.1))
    (λ (old : count_at (with_cell s.nets t c v) d u ≡ count_at s.nets d u). old)
    (cell_cases 0 s.nets t c v u d))

apart : (t c u d : ℕ) → (u ≡ t → d ≡ c → ⊥) → (t == u && c == d) ≡ false
apart t c u d off = ⊎_elim
    (λ (same : t ≡ u). ⊎_elim
    (λ (too : c ≡ d). absurd (off (sym same) (sym too)))
    (λ (ne : c ≡ d → ⊥). let p = eq-eqb t u same in let q = ne_eqb c d ne in λ k. p k && q k)
    (cases_eq c d))
    (λ (ne : t ≡ u → ⊥). ap (λ (b : Bool). b && c == d) (ne_eqb t u ne))
    (cases_eq t u)

collected_does : (s : State) (t c : ℕ) → Holds s → may_collect s t c ≡ true → Does s (Collect t c) (Word (count_at s.counts c t)) (after_collect s t c)
collected_does s t c on may =
    let p = and_parts (may_examine s t c) (is_drainable s t && not (mark_at s.marks t c).collected) may in
    let told = may_examine_tells s t c p.0 in
    let still : (mark_at s.marks t c).collected ≡ false = false_from (mark_at s.marks t c).collected (and_parts (is_drainable s t) (not (mark_at s.marks t c).collected) p.1).1 in
    let gone : slot_at s.slots t ≡ Retired told.2.0 = told.2.1 in
    let place = mark_place s t c told.2.0 on gone told.1 in
    let net : count_at s.counts c t ≡ count_at s.nets c t = (on.balance.counted c t told.1 (told.2.0, inr (gone, still))).0 in
    let n = after_collect s t c in
    let m = mark_after_collect (mark_at s.marks t c) in
    let w = count_at s.counts c t in
    let here : mark_at n.marks t c ≡ m = cell_here no_mark s.marks t c m place.0 place.1 in (
      λ u. refl,
      λ u d. by_cell (λ i j. word_in n i j ≡ word_after i j (Collect t c) (Word w) (word_in s i j)) t c u d
          (
          let drawn : is_drawn n t c ≡ true = λ k. is_retired (gone k) && (here k).collected in
          ap (λ (b : Bool). word_if b (count_at s.nets c t)) drawn ∙ (ap (λ (k : ℕ). Some k) (sym net) ∙ sym (λ k. if (eq-eqb t t refl) k && (eq-eqb c c refl) k then Some w else word_in s t c))
          )
          (λ off.
          let flag : (mark_at n.marks u d).collected ≡ (mark_at s.marks u d).collected = ap (λ (x : Mark). x.collected) (cell_other no_mark s.marks t c m u d off) in
          same_word s n u d (λ k. is_retired (slot_at s.slots u) && flag k) (λ drawn. refl) ∙ sym (ap (λ (b : Bool). if b then Some w else word_in s u d) (apart t c u d off))),
    )

-- Each event

made_does : (s n : State) (e : Event) (r : Reply) → Holds s → Made s e n r → Does s e r n
made_does s n _ _ on (Publishes t e of may) = published_does s t e on may
made_does s n _ _ on (Unpublishes t head next e at rest is) = retired_does s n t e refl refl refl at
made_does s n _ _ on (Republishes t u head next e f of at may is) =
    let told = may_republish_tells s t u e f on of at may in
    let swap = told.2.swap in
    republished_does s n t u e f (omega (arith, told.0, swap.within)) (ap (slot_at s.slots) (sym told.0) ∙ swap.vacant) at swap.number refl refl refl
made_does s n _ _ on (Snaps t c due) = (λ u. refl, marked_word s n t c (snapshot_mark (section_at s c)) refl refl refl (sym (on.balance.fresh c t c (snapshot_due_tells s.due t c due))))
made_does s n _ _ on (Looks t c may) = (λ u. refl, marked_word s n t c (mark_after_look (mark_at s.marks t c) (section_at s c)) refl refl refl refl)
made_does s n _ _ on (LooksPassive t c may) = (λ u. refl, marked_word s n t c (mark_after_passive_look (mark_at s.marks t c) (passive_at s.passive c t)) refl refl refl refl)
made_does s n _ _ on (Counts c t e found of may) = (λ u. refl, counted_word s n c t (count_at s.nets c t + 1) (held_counting s c t e on found of).1 refl refl refl)
made_does s n _ _ on (CountsDown c m id t hand of same) =
    let lt = hand_within s c on (λ empty. let q : Giving m id ≡ Empty = sym hand ∙ empty in cc) in
    let has = slot_has s.slots m t of in
    (λ u. refl, counted_word s n c t (count_at s.nets c t - 1) (is_counting on.balance c t has.1.0 lt has.1.1 (eqb-true (count_at s.counts c t) (count_at s.nets c t) same)) refl refl refl)
made_does s n _ _ on (Collects t c may) = collected_does s t c on may
made_does s n _ _ on (SubsKept t d u keeps of may) = vacated_does s n t on (and_parts _ (is_drained s t) may).1 refl refl refl
made_does s n _ _ on (Vacates t may) = vacated_does s n t on (and_parts _ (is_drained s t) may).1 refl refl refl
made_does s n _ _ on _ = (λ u. refl, λ u d. refl)

-- A log with one item more

unnamed_occupant : (u n : ℕ) (s : State) (e : Event) (x : Option ℕ) → occupant_after u n (by_number s e) x ≡ occupant_after u n e x
unnamed_occupant u n s (Publish t) x = refl
unnamed_occupant u n s e x = refl

same_replied : (r : Reply) → replied (reply_without_id r) ≡ replied r
same_replied (Ref id) = refl
same_replied r = refl

unnamed_word : (u d : ℕ) (s : State) (e : Event) (r : Reply) (x : Option ℕ) → word_after u d (by_number s e) (reply_without_id r) x ≡ word_after u d e r x
unnamed_word u d s (Collect t c) r x = ap (λ (w : Option ℕ). if t == u && c == d then w else x) (same_replied r)
unnamed_word u d s e r x = refl

occupant_both : (t n : ℕ) (x : Option ℕ) (a b : List LogItem) → occupant_from t n x (a ++ b) ≡ occupant_from t (changes_in a + n) (occupant_from t n x a) b
occupant_both t n x [] b = let same : n ≡ 0 + n = omega arith in ap (λ (m : ℕ). occupant_from t m x b) same
occupant_both t n x (d ∷ ds) b =
    occupant_both t (changes_of d.event n) (occupant_after t n d.event x) ds b
    ∙ ap (λ (m : ℕ). occupant_from t m (occupant_from t (changes_of d.event n) (occupant_after t n d.event x) ds) b) (sym (moves_past d.event (changes_in ds) n))

occupant_last : (t : ℕ) (log : List LogItem) (d : LogItem) → occupant t (log ++ d ∷ []) ≡ occupant_after t (changes_in log) d.event (occupant t log)
occupant_last t log d = let same : changes_in log + 0 ≡ changes_in log = omega arith in occupant_both t 0 None log (d ∷ []) ∙ ap (λ (m : ℕ). occupant_after t m d.event (occupant t log)) same

word_both : (t c : ℕ) (x : Option ℕ) (a b : List LogItem) → word_from t c x (a ++ b) ≡ word_from t c (word_from t c x a) b
word_both t c x [] b = refl
word_both t c x (d ∷ ds) b = word_both t c (word_after t c d.event d.reply x) ds b

-- by the keeper's next item

pub occupant_next : (t : ℕ) (log : List LogItem) (s : State) (e : Event) (r : Reply) (h : Option Teller)
    → occupant t (log ++ item_of s e r h ∷ []) ≡ occupant_after t (changes_in log) e (occupant t log)
occupant_next t log s e r h = occupant_last t log (item_of s e r h) ∙ unnamed_occupant t (changes_in log) s e (occupant t log)

pub word_next : (t c : ℕ) (log : List LogItem) (s : State) (e : Event) (r : Reply) (h : Option Teller) → word_collected t c (log ++ item_of s e r h ∷ []) ≡ word_after t c e r (word_collected t c log)
word_next t c log s e r h = word_both t c None log (item_of s e r h ∷ []) ∙ unnamed_word t c s e r (word_collected t c log)

-- The walk

-- the keeper's next item
pub counts_own : (log : List LogItem) (s n : State) (e : Event) (r : Reply) (h : Option Teller) → Holds s → Made s e n r → length s.history ≡ changes_in log → AreCountsOf log s
    → AreCountsOf (log ++ item_of s e r h ∷ []) n
counts_own log s n e r h on is changes are =
    let does = made_does s n e r on is in record {
      occupants = λ t. occupant_next t log s e r h ∙ ((λ k. occupant_after t (sym changes k) e (are.occupants t k)) ∙ sym (does.0 t));
      words = λ t c. word_next t c log s e r h ∙ (ap (word_after t c e r) (are.words t c) ∙ sym (does.1 t c));
    }

-- an event that neither collects a word nor makes a slot vacant leaves them
word_off : (seat : ℕ → ℕ) (n i u d : ℕ) (s : State) (e : Event) (r : Reply) (x : Option ℕ) → IsSeatOf seat n i (maker (by_number s e)) → (i ≡ 0 → ⊥) → word_after u d e r x ≡ x
word_off seat n i u d s (Collect t c) r x is off = absurd (off is)
word_off seat n i u d s (KeptSub t) r x is off = absurd (off is)
word_off seat n i u d s (Vacate t) r x is off = absurd (off is)
word_off seat n i u d s e r x is off = refl

-- an event of another seat leaves the collected words
pub words_off : (seat : ℕ → ℕ) (k i : ℕ) (s n : State) (e : Event) (r : Reply) → IsSeatOf seat k i (maker (by_number s e)) → (i ≡ 0 → ⊥) → Holds s → Made s e n r → (t c : ℕ)
    → word_in n t c ≡ word_in s t c
words_off seat k i s n e r is off on made t c = (made_does s n e r on made).1 t c ∙ word_off seat k i t c s e r (word_in s t c) is off

-- before all events each slot is vacant
pub no_counts : (z : Settings) → AreCountsOf [] (opening z)
no_counts z = record {
  occupants = λ t. sym (ap occupant_of (get_or_all z.slots Vacant t));
  words = λ t c. sym (no_word (opening z) t c (undrawn_slot (opening z) t c (ap is_retired (get_or_all z.slots Vacant t))));
}
