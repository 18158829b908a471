-- The keeper's events on the list keep the invariant: stores to a vacant slot, Publish and Unpublish.
use Rattle.std.proofs.Common.{Bool, List, None, Option, Some, [], ap, arith, false, get_or, get_or-set_other, get_or-set_same, inl, inr, length, length-set, ltb-true, not, refl, replicate, set, subst, suc, sym, true, ℕ, ◌+◌, ◌<◌, ◌∙◌, ◌≡◌, ◌≢◌, ◌≤◌}
use Rattle.std.proofs.lemmas.Bool.{and_parts, cases_eq, eqb-true, leb-true}
use Rattle.std.proofs.lemmas.List.{set_past}
use Rattle.std.proofs.lemmas.List.Folds.{list_any_at}
use Rattle.std.proofs.lemmas.List.Sums.{sum_by-set}
use Rattle.std.proofs.lemmas.Option.{none-some, same_Some}
use Rattle.std.specs.Prelude.{if◌then◌else◌}
use Rattle.protocol.proofs.History.{found_old, searches_old, sections_old, length-after_change}
use Rattle.protocol.proofs.keeps.Marking.{marks_detach, snapshots_detach, passive_attach, passive_detach}
use Rattle.protocol.proofs.keeps.Linking.{at_head, at_link, held_attach, legal_attach, links_attach, list_attach, marks_attach, rows_attach, slots_attach, before_leads, head_leads, held_detach, legal_detach, link_to, links_detach, list_unlink, rows_detach, slots_detach, within_live, retired_before}
use Rattle.protocol.specs.History.{rank_at}
use Rattle.protocol.specs.Common.{after_change, AreRows, CountsHold, DriversKept, HasShape, Holds, IsIn, Leads, LinksStay, ListShows, ReferencesHold, RowsShow, SnapshotsStand, one_if, at_rest, State, kept_at, no_words, row_at, with_cell, Rest, RecordWords}
use Rattle.protocol.specs.Events
use Rattle.protocol.specs.Types.{MOST_CPUS, Attach, Detach, Entry, Key, Slot, Live, Retired, Vacant}
use Rattle.registry_values.specs.Common.{key_of, is_live, is_taken, live_count, slot_before, slot_at, bias, no_mark}
use Rattle.registry_values.proofs.Slots.{key_same}
use Rattle.registry_values.specs.Names.{are_key_words}
use Rattle.protocol.proofs.Occupied.{not_vacant, is_vacant_tells, at_rest_tells}
use Rattle.protocol.proofs.Either.{either}

-- the clauses that other files keep, at a state
abbrev pub CountsOf : State → Type 0
CountsOf s = CountsHold s.settings s.slots s.marks s.counts s.nets s.totals s.hands s.keeps s.due s.locals

abbrev pub ReferencesOf : State → Type 0
ReferencesOf s = ReferencesHold s.settings.cpus s.slots s.hands s.due s.locals

abbrev pub DriversOf : State → Type 0
DriversOf s = DriversKept s.slots s.keeps

pub false_from : (b : Bool) → not b ≡ true → b ≡ false
false_from b is = grind arith

-- the slot that may be written is in range and vacant, and the keeper at rest
pub may_write_tells : (s : State) (t : ℕ) → HasShape s → Events.may_write s t ≡ true → (s.due ≡ Rest) × (t < length s.slots) × (slot_at s.slots t ≡ Vacant)
may_write_tells s t shape may = grind (arith, and_parts, at_rest_tells, ltb-true, is_vacant_tells)

-- what an entry that may be published shows
pub record IsPublishable (s : State) (t : ℕ) (e : Entry) : Type 0 where
  pub rest : s.due ≡ Rest
  pub within : t < length s.slots
  pub vacant : slot_at s.slots t ≡ Vacant
  pub number : e.number ≡ suc (length s.history)
  pub free : is_taken (key_of e) s.slots ≡ false
  pub room : length s.history + live_count s.slots + 2 ≤ s.settings.change_limit
  pub link : get_or s.next t 0 ≡ s.head
  pub unused : Events.are_unused s t ≡ true
  pub rightly : Events.keeps_rightly (kept_at s.keeps t) e.rec.kind ≡ true

pub may_publish_tells : (s : State) (t : ℕ) (e : Entry) → HasShape s → Events.may_publish s t e ≡ true → IsPublishable s t e
may_publish_tells s t e shape may = grind (arith, and_parts, may_write_tells, eqb-true, false_from, leb-true)

-- a live entry with the key shows that it is taken
pub taken_from : (key : Key) (slots : List Slot) (t : ℕ) (f : Entry) → slot_at slots t ≡ Live f → key_of f ≡ key → is_taken key slots ≡ true
taken_from key slots t f at same = grind (arith, list_any_at, within_live, key_same)

-- how many are live after a write
pub live_count_set : (slots : List Slot) (t : ℕ) (x : Slot) → t < length slots → live_count (set slots t x) + one_if (is_live (slot_at slots t)) ≡ live_count slots + one_if (is_live x)
live_count_set slots t x lt = sum_by-set (λ (y : Slot). if is_live y then 1 else 0) slots t x Vacant lt

pub live_count_put : (slots : List Slot) (t : ℕ) (x y : Slot) → t < length slots → slot_at slots t ≡ x → live_count (set slots t y) + one_if (is_live x) ≡ live_count slots + one_if (is_live y)
live_count_put slots t x y lt at = subst (λ (z : Slot). live_count (set slots t y) + one_if (is_live z) ≡ live_count slots + one_if (is_live y)) at (live_count_set slots t y lt)

-- a row with a place for each CPU is written
pub rows_put : {X : Type 0} (rows : List (List X)) (t : ℕ) (row : List X) → length row ≡ MOST_CPUS → AreRows rows → AreRows (set rows t row)
rows_put {X} rows t row size are u lt = grind (arith, get_or-set_same, length-set, get_or-set_other, cases_eq u t)

-- and so where one place of a row is
pub rows_cell : {X : Type 0} (rows : List (List X)) (t c : ℕ) (x : X) → AreRows rows → AreRows (set rows t (set (get_or rows t []) c x))
rows_cell {X} rows t c x are u lt = grind (arith, rows_put, length-set, set_past)

-- they are as many as before, too
pub cell_sized : {X : Type 0} (rows : List (List X)) (t c : ℕ) (x : X) {n : ℕ} → length rows ≡ n → AreRows rows → (length (with_cell rows t c x) ≡ n) × AreRows (with_cell rows t c x)
cell_sized {X} rows t c x size are = (length-set rows t (set (get_or rows t []) c x) ∙ size, rows_cell rows t c x are)

-- a write to a vacant slot's words
rows_store : (slots : List Slot) (rows : List RecordWords) (t : ℕ) (r : RecordWords) → slot_at slots t ≡ Vacant → RowsShow slots rows → RowsShow slots (set rows t r)
rows_store slots rows t r vacant show u f is =
    let off : u ≢ t = λ same. not_vacant f (slot_at slots u) (ap (slot_at slots) same ∙ vacant) is in
    let was = show u f is in
    (get_or-set_other rows t u r no_words off ∙ was.0, was.1)

pub row_store_keeps : (s : State) (t k v : ℕ) → Holds s → Events.may_write s t ≡ true → Holds (Events.after_row_store s t k v)
row_store_keeps s t k v on may =
    let told = may_write_tells s t on.shape may in
    assumption (length-set s.rows t (Events.with_word (row_at s.rows t) k v) ∙ on.shape.rows, rows_store s.slots s.rows t (Events.with_word (row_at s.rows t) k v) told.2 on.rows)

pub link_store_keeps : (s : State) (t v : ℕ) → Holds s → Events.may_write s t ≡ true → Holds (Events.after_link_store s t v)
link_store_keeps s t v on may =
    let told = may_write_tells s t on.shape may in
    let same : (u : ℕ) (f : Entry) → IsIn f (slot_at s.slots u) → get_or (set s.next t v) u 0 ≡ get_or s.next u 0 =
    λ u f is. get_or-set_other s.next t u v 0 (λ same. not_vacant f (slot_at s.slots u) (ap (slot_at s.slots) same ∙ told.2) is) in
    let list : ListShows s.history s.slots s.head (set s.next t v) =
    record { first = on.list.first; links = λ u f is. subst (Leads s.history (length s.history) (rank_at s.history f.number)) (sym (same u f (inl is))) (on.list.links u f is) } in
    let frozen : LinksStay s.history s.slots (set s.next t v) s.begins =
    λ u p c b f is ends in_ low. subst (Leads s.history p (rank_at s.history f.number)) (sym (same u f (inr is))) (on.frozen_links u p c b f is ends in_ low) in
    assumption (length-set s.next t v ∙ on.shape.links)

-- the words of a row are its entry's
pub entry_shows : (t : ℕ) (r : RecordWords) (e : Entry) → Events.entry_of t r ≡ Some e → (e.slot ≡ t) × (r ≡ Events.words_of e) × (are_key_words e.rec.name.high e.rec.name.low ≡ true)
entry_shows t r e is = grind (arith, none-some, same_Some)

-- an entry is published in its own slot
publish_own : (s : State) (e : Entry) → Holds s → row_at s.rows e.slot ≡ Events.words_of e → are_key_words e.rec.name.high e.rec.name.low ≡ true → Events.may_publish s e.slot e ≡ true
    → CountsOf (Events.after_publish s e.slot e) → ReferencesOf (Events.after_publish s e.slot e) → DriversOf (Events.after_publish s e.slot e) → Holds (Events.after_publish s e.slot e)
publish_own s e on row name may counts references drivers =
    let told = may_publish_tells s e.slot e on.shape may in
    let more : live_count (set s.slots e.slot (Live e)) + 0 ≡ live_count s.slots + 1 = live_count_put s.slots e.slot Vacant (Live e) told.within told.vacant in
    let size : length (after_change s.history (Attach e)) ≡ suc (length s.history) = length-after_change s.history (Attach e) in
    let list : ListShows (after_change s.history (Attach e)) (set s.slots e.slot (Live e)) (e.slot + 1) s.next =
    subst (λ (n : ℕ). ListShows (after_change s.history (Attach e)) (set s.slots e.slot (Live e)) n s.next) (omega arith)
    (list_attach s.history s.slots s.head s.next e on.legal told.within told.number told.link on.slots on.list) in
    let room : length (after_change s.history (Attach e)) + live_count (set s.slots e.slot (Live e)) ≤ s.settings.change_limit = omega (arith, size, more, told.room) in
    assumption (
      length-set s.nets e.slot (replicate MOST_CPUS bias) ∙ on.shape.nets,
      rows_put s.nets e.slot (replicate MOST_CPUS bias) refl on.shape.net_rows,
      length-set s.slots e.slot (Live e) ∙ on.shape.slots,
      legal_attach s.history e on.legal told.number
          (λ f live same. let q : ◌≡◌ {A = Bool} true false = sym (taken_from (key_of e) s.slots f.slot f (on.slots.placed f live) same) ∙ told.free in cc)
          (λ f live same. let q : Live f ≡ Vacant = sym (on.slots.placed f live) ∙ (ap (slot_at s.slots) same ∙ told.vacant) in cc),
      slots_attach s.history s.slots e on.legal told.within told.vacant told.number on.slots,
      rows_attach s.slots s.rows e told.within row name on.rows,
      held_attach s.history s.slots s.begins e told.within told.vacant told.number on.held,
      links_attach s.history s.slots s.next s.begins e on.legal told.within on.frozen_links,
      marks_attach s.history s.slots s.marks s.section s.begins e told.within on.grace,
      λ (u c : ℕ) (f : Entry) (is : slot_at (set s.slots e.slot (Live e)) u ≡ Retired f). on.snapshots u c f (retired_before s.slots e u f told.within is),
      sections_old s.settings s.history (Attach e) s.section s.begins s.depths s.seen on.sections,
      searches_old s.settings s.history (Attach e) s.section s.begins s.depths s.seen s.searches on.sections on.searches,
      found_old s.settings s.history (Attach e) s.section s.begins s.depths s.seen s.found on.sections on.last_found,
      passive_attach s.settings.cpus s.settings.passive_limit s.slots s.marks s.passive s.hands e told.within on.passive,
    )

pub publish_keeps : (s : State) (t : ℕ) (e : Entry) → Holds s → Events.entry_of t (row_at s.rows t) ≡ Some e → Events.may_publish s t e ≡ true
    → CountsOf (Events.after_publish s t e) → ReferencesOf (Events.after_publish s t e) → DriversOf (Events.after_publish s t e) → Holds (Events.after_publish s t e)
publish_keeps s t e on is =
    let told = entry_shows t (row_at s.rows t) e is in
    subst (λ (u : ℕ). row_at s.rows u ≡ Events.words_of e → Events.may_publish s u e ≡ true → CountsOf (Events.after_publish s u e) → ReferencesOf (Events.after_publish s u e) → DriversOf (Events.after_publish s u e)
    → Holds (Events.after_publish s u e))
    told.0 (λ row may counts references drivers. publish_own s e on row told.2 may counts references drivers) told.1

-- the first store leaves all but the head and one link
fit_unlinked : (s : State) (e : Entry) (head : ℕ) (next : List ℕ) → Holds s → slot_at s.slots e.slot ≡ Live e → at_rest s.due ≡ true
    → length next ≡ length s.next
    → ListShows (after_change s.history (Detach e.number)) (set s.slots e.slot (Retired e)) head next
    → LinksStay (after_change s.history (Detach e.number)) (set s.slots e.slot (Retired e)) next s.begins
    → CountsOf (Events.with_retired s e.slot e) → ReferencesOf (Events.with_retired s e.slot e) → DriversOf (Events.with_retired s e.slot e) → Holds (Events.with_retired (record s { head = head; next = next }) e.slot e)
fit_unlinked s e head next on at rest next_size list links counts references drivers =
    let lt : e.slot < length s.slots = within_live s.slots e.slot e at in
    let lm : e.slot < length s.marks = omega (arith, on.shape.slots, on.shape.marks) in
    let less : live_count (set s.slots e.slot (Retired e)) + 1 ≡ live_count s.slots + 0 = live_count_put s.slots e.slot (Live e) (Retired e) lt at in
    let size : length (after_change s.history (Detach e.number)) ≡ suc (length s.history) = length-after_change s.history (Detach e.number) in
    let room : length (after_change s.history (Detach e.number)) + live_count (set s.slots e.slot (Retired e)) ≤ s.settings.change_limit = omega (arith, size, less, on.room) in
    assumption (
      next_size ∙ on.shape.links,
      length-set s.slots e.slot (Retired e) ∙ on.shape.slots,
      length-set s.marks e.slot (replicate MOST_CPUS no_mark) ∙ on.shape.marks,
      rows_put s.marks e.slot (replicate MOST_CPUS no_mark) refl on.shape.mark_rows,
      legal_detach s.history e on.legal (on.slots.live e.slot e at).0,
      slots_detach s.history s.slots e on.legal at on.slots,
      rows_detach s.slots s.rows e at on.rows,
      held_detach s.history s.slots s.begins e at on.held,
      marks_detach s.history s.slots s.marks s.section s.begins e MOST_CPUS at (on.shape.marks ∙ sym on.shape.slots) on.slots on.grace,
      snapshots_detach s.settings.cpus s.slots s.marks e MOST_CPUS lt (subst (SnapshotsStand s.settings.cpus s.slots s.marks) (at_rest_tells s.due rest) on.snapshots),
      sections_old s.settings s.history (Detach e.number) s.section s.begins s.depths s.seen on.sections,
      searches_old s.settings s.history (Detach e.number) s.section s.begins s.depths s.seen s.searches on.sections on.searches,
      found_old s.settings s.history (Detach e.number) s.section s.begins s.depths s.seen s.found on.sections on.last_found,
      passive_detach s.settings.cpus s.settings.passive_limit s.slots s.marks s.passive s.hands e MOST_CPUS lt lm on.passive,
    )

-- an entry is unlinked from its own slot
unlink_own : (s : State) (e : Entry) (o : Option ℕ) → Holds s → slot_at s.slots e.slot ≡ Live e → at_rest s.due ≡ true → slot_before s.slots s.next e.slot ≡ o
    → CountsOf (Events.with_retired s e.slot e) → ReferencesOf (Events.with_retired s e.slot e) → DriversOf (Events.with_retired s e.slot e) → Holds (Events.with_retired (Events.with_link_past s e.slot o) e.slot e)
unlink_own s e None on at rest is counts references drivers =
    let size : length s.next ≡ length s.slots = on.shape.links ∙ sym on.shape.slots in
    let first : s.head ≡ suc e.slot = head_leads s.history s.slots s.head s.next e on.legal on.slots on.list size at is in
    fit_unlinked s e (get_or s.next e.slot 0) s.next on at rest refl
    (list_unlink s.history s.slots s.head s.next (get_or s.next e.slot 0) s.next e on.legal at on.slots on.list
    (at_head s.history s.slots s.head s.next e (get_or s.next e.slot 0) on.legal on.slots on.list at first))
    (links_detach s.history s.slots s.head s.next s.next s.begins e on.legal at on.slots on.list (λ u f x y. refl) on.frozen_links)
    counts references drivers
unlink_own s e (Some p) on at rest is counts references drivers =
    let size : length s.next ≡ length s.slots = on.shape.links ∙ sym on.shape.slots in
    let g = before_leads s.slots s.next e.slot p size is in
    let kept : (u : ℕ) (f : Entry) → IsIn f (slot_at s.slots u) → ((slot_at s.slots u ≡ Live f) → (u ≡ e.slot)) → get_or (set s.next p (get_or s.next e.slot 0)) u 0 ≡ get_or s.next u 0
    = λ u f x only. get_or-set_other s.next p u (get_or s.next e.slot 0) 0 (λ same. either x
    (λ live.
    let word : get_or s.next e.slot 0 ≡ suc e.slot = ap (λ (k : ℕ). get_or s.next k 0) (sym (only live) ∙ same) ∙ g.2 in
    omega (arith, (link_to s.history s.slots e (rank_at s.history e.number) (get_or s.next e.slot 0) on.slots at word (on.list.links e.slot e at)).0))
    (λ gone. let q : Live g.0 ≡ Retired f = sym g.1 ∙ (ap (slot_at s.slots) (sym same) ∙ gone) in cc)) in
    fit_unlinked s e s.head (set s.next p (get_or s.next e.slot 0)) on at rest (length-set s.next p (get_or s.next e.slot 0))
    (list_unlink s.history s.slots s.head s.next s.head (set s.next p (get_or s.next e.slot 0)) e on.legal at on.slots on.list
    (at_link s.history s.slots s.head s.next e g.0 p (get_or s.next e.slot 0) on.legal on.slots on.list size at g.1 g.2))
    (links_detach s.history s.slots s.head s.next (set s.next p (get_or s.next e.slot 0)) s.begins e on.legal at on.slots on.list kept on.frozen_links)
    counts references drivers

pub unpublish_keeps : (s : State) (t : ℕ) (e : Entry) → Holds s → slot_at s.slots t ≡ Live e → at_rest s.due ≡ true
    → CountsOf (Events.with_retired s t e) → ReferencesOf (Events.with_retired s t e) → DriversOf (Events.with_retired s t e) → Holds (Events.after_unpublish s t e)
unpublish_keeps s t e on is rest =
    let slot : e.slot ≡ t = (on.slots.live t e is).1 in
    subst (λ (u : ℕ). slot_at s.slots u ≡ Live e → CountsOf (Events.with_retired s u e) → ReferencesOf (Events.with_retired s u e) → DriversOf (Events.with_retired s u e) → Holds (Events.after_unpublish s u e))
    slot (λ at counts references drivers. unlink_own s e (slot_before s.slots s.next e.slot) on at rest refl counts references drivers) is
