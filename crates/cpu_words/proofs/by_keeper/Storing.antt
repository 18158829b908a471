-- The stores of the keeper into a vacant slot, and into the live words.
use Rattle.std.proofs.Common.{◌≡◌, ◌≢◌, ⊎_elim, ℕ, zero, suc, ◌+◌, ◌-◌, ◌<◌, ◌≤◌, List, [], length, get_or, set, Some, refl, sym, ap, ◌∙◌, subst, arith, length-set, get_or-set_same, get_or-set_other, inl, true}
use Rattle.std.proofs.lemmas.Bool.{cases_eq, lt-ltb, le-ltb}
use mathlib.Core.Option.{some}
use lib.ListN.{get_elem?}
use Rattle.atomic_table.specs.Table.{State as Table, keeps, stepped}
use Rattle.cpu_words.specs.Types.{Settings, StoreSlot, StoreNext, Done, RecordWords, Slot, Vacant, Rest, Entry, Live, Event, Show, Hide}
use Rattle.registry_values.specs.Common.{slot_at}
use Rattle.registry_values.proofs.Fit.{ranges}
use Rattle.protocol.specs.Common.{State, no_words, with_cell, row_at, count_at, step, word, with_word, is_honest, after_count_store}
use Rattle.protocol.proofs.Cells.{by_cell, cell_here, cell_other}
use Rattle.protocol.proofs.keeps.ListKeeps.{rows_cell}
use Rattle.protocol.proofs.Occupied.{in_within}
use Rattle.cpu_words.specs.Common.{KeeperView, Keeper, count_of, live_of, next_of, record_of, index, keeper_view, KeeperShown, Agrees, Good, did, Makes, MayWrite, HasRecordWord, HasCountWord, HasLink, View, Ruled, GoesOn, by_number, LiveTold, MayHide, MayShow, keeper_after_live}
use Rattle.cpu_words.proofs.shown.Placing.{agrees_set}
use Rattle.cpu_words.proofs.by_keeper.KeeperSteps.{with_keeper, leaves_all, keeper_makes, shown_still, SeenByKeeper, seen_by_keeper, KeeperPuts}
use Rattle.cpu_words.proofs.shown.Seeing.{honest_stored, live_honest}

-- what such a store needs of the core
record Stores (g : State) (k : KeeperView) (t : ℕ) : Type 0 where
  pub seen : SeenByKeeper g k
  pub rest : g.due ≡ Rest
  pub slot : t < g.settings.slots
  pub vacant : slot_at g.slots t ≡ Vacant

stores_of : (g : State) (k : KeeperView) (t : ℕ) → Good g → KeeperShown g k → MayWrite k t → Stores g k t
stores_of g k t good had may =
    let seen = seen_by_keeper g k good had in record {
      seen = seen;
      rest = sym seen.due ∙ may.rest;
      slot = subst (λ (z : Settings). t < z.slots) seen.settings may.slot;
      vacant = ap (λ (x : List Slot). slot_at x t) (sym seen.slots) ∙ may.vacant;
    }

-- Links

link_words : (z : Settings) (words : List ℕ) (g : State) (t v : ℕ) → Good g → t < g.settings.slots → Agrees z words g
    → Agrees z (set words (index z (next_of t)) v) (with_keeper g (record g { next = set g.next t v }))
link_words z words g t v good slot agrees = agrees_set z words g _ (next_of t) v agrees refl slot (get_or-set_same g.next t v 0 (omega (arith, good.holds.shape.links)))
    (elim [ next_of u ↦ λ _ ne. get_or-set_other g.next t u v 0 (λ is. ne (ap next_of is)) | _ ↦ λ _ _. refl ])

pub store_next_may : (z : Settings) (k : KeeperView) (t v : ℕ) → v ≤ k.settings.slots → MayWrite k t → KeeperPuts z k (next_of t) v (StoreNext t v) (λ x _ y. HasLink x t v y)
store_next_may z k t v leads may s r i at fits =
    let g = r.g in
    let had : KeeperShown g k = (r.shows.fits i (Keeper k) at).1 in
    let on = stores_of g k t r.good had may in
    let l = record g { next = set g.next t v } in
    let made : step g (StoreNext t v) ≡ Some (record { state = with_keeper g l; reply = Done }) = rw (on.rest, lt-ltb t g.settings.slots on.slot, on.vacant) refl in
    let done = keeper_makes z s r i k (index z (next_of t)) v l (StoreNext t v) Done k at made (leaves_all g l refl refl refl refl (λ u d is. is)) (λ n. refl) refl (shown_still g k l k had)
    (link_words z s.words g t v r.good on.slot r.words) in
    (Keeper (keeper_view (with_keeper g l) k), done.0, (refl, (done.1, ap (λ (x : KeeperView). record x { next = set x.next t v }) (sym had.is))))

-- Record words

-- the word j of a record, and the others
word_here : (r : RecordWords) (j v : ℕ) → j < 5 → word (with_word r j v) j ≡ v
word_here r (suc (suc (suc (suc j)))) v lt = refl
word_here r j v lt = refl

word_else : (r : RecordWords) (j i v : ℕ) → j < 5 → i < 5 → i ≢ j → word (with_word r j v) i ≡ word r i
word_else r zero zero v lt below ne = absurd (ne refl)
word_else r zero (suc (suc (suc (suc i)))) v lt below ne = refl
word_else r (suc zero) (suc zero) v lt below ne = absurd (ne refl)
word_else r (suc zero) (suc (suc (suc (suc i)))) v lt below ne = refl
word_else r (suc (suc zero)) (suc (suc zero)) v lt below ne = absurd (ne refl)
word_else r (suc (suc zero)) (suc (suc (suc (suc i)))) v lt below ne = refl
word_else r (suc (suc (suc zero))) (suc (suc (suc zero))) v lt below ne = absurd (ne refl)
word_else r (suc (suc (suc zero))) (suc (suc (suc (suc i)))) v lt below ne = refl
word_else r (suc (suc (suc (suc j)))) (suc (suc (suc (suc i)))) v lt below ne = absurd (ne (omega arith))
word_else r j i v lt below ne = refl

abbrev with_record : State → ℕ → ℕ → ℕ → State
with_record g t j v = record g { rows = set g.rows t (with_word (row_at g.rows t) j v) }

record_words : (z : Settings) (words : List ℕ) (g : State) (t j v : ℕ) → Good g → t < g.settings.slots → j < 5 → Agrees z words g → Agrees z (set words (index z (record_of t j)) v) (with_keeper g (with_record g t j v))
record_words z words g t j v good slot lt agrees =
    let here : row_at (set g.rows t (with_word (row_at g.rows t) j v)) t ≡ with_word (row_at g.rows t) j v =
    get_or-set_same g.rows t (with_word (row_at g.rows t) j v) no_words (omega (arith, good.holds.shape.rows)) in
    agrees_set z words g (with_keeper g (with_record g t j v)) (record_of t j) v agrees refl (slot, lt) (ap (λ (r : RecordWords). word r j) here ∙ word_here (row_at g.rows t) j v lt)
    (elim [
      | record_of u i ↦ λ there ne. ⊎_elim
          (λ (is : u ≡ t). subst (λ w. word (row_at (set g.rows t (with_word (row_at g.rows t) j v)) w) i ≡ word (row_at g.rows w) i) (sym is)
          (ap (λ (r : RecordWords). word r i) here ∙ word_else (row_at g.rows t) j i v lt there.1 (λ same. ne ((λ k. record_of (is k) i) ∙ ap (record_of t) same))))
          (λ (off : u ≢ t). ap (λ (r : RecordWords). word r i) (get_or-set_other g.rows t u (with_word (row_at g.rows t) j v) no_words off))
          (cases_eq u t)
      | _ ↦ λ _ _. refl
    ])

pub store_record_may : (z : Settings) (k : KeeperView) (t j v : ℕ) → j < 5 → MayWrite k t → KeeperPuts z k (record_of t j) v (StoreSlot t j v) (λ x _ y. HasRecordWord x t j v y)
store_record_may z k t j v lt may s r i at fits =
    let g = r.g in
    let had : KeeperShown g k = (r.shows.fits i (Keeper k) at).1 in
    let on = stores_of g k t r.good had may in
    let l = with_record g t j v in
    let made : step g (StoreSlot t j v) ≡ Some (record { state = with_keeper g l; reply = Done }) = rw (lt-ltb j 5 lt, on.rest, lt-ltb t g.settings.slots on.slot, on.vacant) refl in
    let done = keeper_makes z s r i k (index z (record_of t j)) v l (StoreSlot t j v) Done k at made (leaves_all g l refl refl refl refl (λ u d is. is)) (λ n. refl) refl (shown_still g k l k had)
    (record_words z s.words g t j v r.good on.slot lt r.words) in
    (Keeper (keeper_view (with_keeper g l) k), done.0, (refl, (done.1, ap (λ (x : KeeperView). record x { rows = set x.rows t (with_word (row_at x.rows t) j v) }) (sym had.is))))

-- Count words

count_words : (z : Settings) (words : List ℕ) (g : State) (t c v : ℕ) → Good g → t < g.settings.slots → c < g.settings.cpus → Agrees z words g
    → Agrees z (set words (index z (count_of c t)) v) (with_keeper g (after_count_store g t c v))
count_words z words g t c v good slot lt agrees =
    let within : t < length g.counts = omega (arith, good.holds.shape.counts) in
    let in_row : c < length (get_or g.counts t []) = omega (arith, good.holds.shape.count_rows t within, (ranges g.settings good.holds.fit).cpus) in
    agrees_set z words g (with_keeper g (after_count_store g t c v)) (count_of c t) v agrees refl (lt, slot) (cell_here 0 g.counts t c v within in_row)
    (elim [ count_of d u ↦ λ _ ne. cell_other 0 g.counts t c v u d (λ at_slot at_cpu. ne ((λ k. count_of (at_cpu k) u) ∙ ap (count_of c) at_slot)) | _ ↦ λ _ _. refl ])

-- the keeper's own row of count words follows
counts_follow : (g : State) (k : KeeperView) (t c v : ℕ) → Good g → KeeperShown g k → t < g.settings.slots → c < g.settings.cpus → (d u : ℕ) → slot_at g.slots u ≡ Vacant
    → count_at (with_cell g.counts t c v) d u ≡ count_at (with_cell k.counts t c v) d u
counts_follow g k t c v good had slot lt d u vacant =
    let in_core : t < length g.counts = omega (arith, good.holds.shape.counts) in
    let in_own : t < length k.counts = omega (arith, had.sized) in
    let few = (ranges g.settings good.holds.fit).cpus in
    by_cell (λ w e. count_at (with_cell g.counts t c v) e w ≡ count_at (with_cell k.counts t c v) e w) t c u d
    (cell_here 0 g.counts t c v in_core (omega (arith, good.holds.shape.count_rows t in_core, few, lt)) ∙ sym (cell_here 0 k.counts t c v in_own (omega (arith, had.rows t in_own, few, lt))))
    (λ off. cell_other 0 g.counts t c v u d off ∙ had.counts d u vacant ∙ sym (cell_other 0 k.counts t c v u d off))

pub store_count_may : (z : Settings) (k : KeeperView) (t c v : ℕ) → c < k.settings.cpus → MayWrite k t
    → KeeperPuts z k (count_of c t) v (StoreSlot t (5 + c) v) (λ x _ y. HasCountWord x t ((5 + c) - 5) v y)
store_count_may z k t c v within may s r i at fits =
    let g = r.g in
    let had : KeeperShown g k = (r.shows.fits i (Keeper k) at).1 in
    let on = stores_of g k t r.good had may in
    let lt : c < g.settings.cpus = subst (λ (a : Settings). c < a.cpus) on.seen.settings within in
    let l = after_count_store g t c v in
    let own : KeeperView = record k { counts = with_cell k.counts t c v } in
    let back : (5 + c) - 5 ≡ c = omega arith in
    let made : step g (StoreSlot t (5 + c) v) ≡ Some (record { state = with_keeper g l; reply = Done }) =
    rw (le-ltb (5 + c) 5 (omega arith), back, on.rest, lt-ltb t g.settings.slots on.slot, on.vacant, lt-ltb c g.settings.cpus lt) refl in
    let shown : KeeperShown (with_keeper g l) (keeper_view (with_keeper g l) own) =
    assumption (counts_follow g k t c v r.good had on.slot lt, length-set k.counts t (set (get_or k.counts t []) c v) ∙ had.sized, rows_cell k.counts t c v had.rows, had) in
    let done = keeper_makes z s r i k (index z (count_of c t)) v l (StoreSlot t (5 + c) v) Done own at made (leaves_all g l refl refl refl refl (λ u d is. is)) (λ n. refl) refl shown
    (count_words z s.words g t c v r.good on.slot lt r.words) in (
      Keeper (keeper_view (with_keeper g l) own),
      done.0,
      (refl, (done.1, ap (λ (x : KeeperView). record x { counts = with_cell k.counts t c v }) (sym had.is) ∙ ap (λ d. record k { counts = with_cell k.counts t d v }) (sym back))),
    )

-- Show and Hide on the words.

-- the live word of t is v
abbrev storing : State → ℕ → ℕ → State
storing g t v = record g { lives = set g.lives t v }

-- the keeper's view after it
abbrev after_storing : State → KeeperView → ℕ → ℕ → KeeperView
after_storing g k t v = keeper_view (with_keeper g (storing g t v)) k

shown_stored : (g : State) (k : KeeperView) (t v : ℕ) → KeeperShown g k → is_honest v (slot_at g.slots t) ≡ true → KeeperShown (with_keeper g (storing g t v)) (after_storing g k t v)
shown_stored g k t v had honest = assumption (honest_stored g.slots g.lives t v honest had.honest, had)

-- the keeper stores an honest word
stores : (z : Settings) (s : Table ℕ View) (r : Ruled z s) (i : ℕ) (k : KeeperView) (t v : ℕ) (e : Event) → get_elem? s.views i ≡ some (Keeper k) → t < r.g.settings.slots
    → is_honest v (slot_at r.g.slots t) ≡ true → step r.g e ≡ Some (record { state = with_keeper r.g (storing r.g t v); reply = Done })
    → GoesOn z s r (did (by_number r.g e) Done) (stepped s (index z (live_of t)) v i [] (Keeper (after_storing r.g k t v)) keeps) × Makes e Done (Keeper k) (Keeper (after_storing r.g k t v))
stores z s r i k t v e at within honest made =
    let g = r.g in
    let had : KeeperShown g k = (r.shows.fits i (Keeper k) at).1 in
    let l = storing g t v in
    let words : Agrees z (set s.words (index z (live_of t)) v) (with_keeper g l) =
    agrees_set z s.words g (with_keeper g l) (live_of t) v r.words refl within (get_or-set_same g.lives t v 0 (omega (arith, within, r.good.holds.shape.lives)))
    (elim [ live_of u ↦ λ _ off. get_or-set_other g.lives t u v 0 (λ same. off (ap live_of same)) | _ ↦ λ _ _. refl ]) in
    keeper_makes z s r i k (index z (live_of t)) v l e Done k at made (leaves_all g l refl refl refl refl (λ u d is. is)) (λ n. refl) refl (shown_stored g k t v had honest) words

changed : (g : State) (k : KeeperView) (t v : ℕ) → KeeperShown g k → after_storing g k t v ≡ keeper_after_live k t v
changed g k t v had = ap (λ (y : KeeperView). keeper_after_live y t v) (sym had.is)

show_at : (z : Settings) (k : KeeperView) (t : ℕ) (e : Entry) → k.due ≡ Rest → slot_at k.slots t ≡ Live e → KeeperPuts z k (live_of t) e.number (Show t) (λ v n l. LiveTold (Show t) n v l)
show_at z k t e may is s r i at fits =
    let g = r.g in
    let had : KeeperShown g k = (r.shows.fits i (Keeper k) at).1 in
    let seen = seen_by_keeper g k r.good had in
    let live : slot_at g.slots t ≡ Live e = ap (λ (x : List Slot). slot_at x t) (sym seen.slots) ∙ is in
    let honest : is_honest e.number (slot_at g.slots t) ≡ true = ap (is_honest e.number) live ∙ live_honest e.number e refl in
    let made : step g (Show t) ≡ Some (record { state = with_keeper g (storing g t e.number); reply = Done }) = rw (live, sym seen.due ∙ may) refl in
    let done = stores z s r i k t e.number (Show t) at (omega (arith, in_within g.slots t e (inl live), r.good.holds.shape.slots)) honest made in
    (Keeper (after_storing g k t e.number), done.0, (refl, (done.1, changed g k t e.number had)))

pub show_may : (z : Settings) (k : KeeperView) (t n : ℕ) → MayShow k t n → KeeperPuts z k (live_of t) n (Show t) (λ v m l. LiveTold (Show t) m v l)
show_may z k t n may = rw (← may.number) (show_at z k t may.entry may.rest may.live)

pub hide_may : (z : Settings) (k : KeeperView) (t : ℕ) → MayHide k t → KeeperPuts z k (live_of t) 0 (Hide t) (λ v n l. LiveTold (Hide t) n v l)
hide_may z k t may s r i at fits =
    let g = r.g in
    let had : KeeperShown g k = (r.shows.fits i (Keeper k) at).1 in
    let seen = seen_by_keeper g k r.good had in
    let within : t < g.settings.slots = subst (λ (a : Settings). t < a.slots) seen.settings may.slot in
    let made : step g (Hide t) ≡ Some (record { state = with_keeper g (storing g t 0); reply = Done }) = rw (sym seen.due ∙ may.rest, lt-ltb t g.settings.slots within) refl in
    let done = stores z s r i k t 0 (Hide t) at within refl made in
    (Keeper (after_storing g k t 0), done.0, (refl, (done.1, changed g k t 0 had)))
