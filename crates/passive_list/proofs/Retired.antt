-- An entry is retired: the keeper may do so, and what it has agrees with what its seat knows then.
use Rattle.std.proofs.Common.{◌≡◌, ℕ, zero, suc, ◌+◌, ◌*◌, ◌<◌, ◌≤◌, List, [], ◌∷◌, length, get_or, set, replicate, Option, Some, None, refl, sym, ap, ◌∙◌, subst, arith, get_or-set_same, get_or-set_other, length-set, ◌-◌}
use Rattle.passive_list.specs.Types.{Detach, Entry, Settings, Mark, Slot, Live, Retired, MOST_CPUS, KeeperView}
use Rattle.registry_values.specs.Common.{live_count, slot_at, no_mark}
use Rattle.protocol.specs.Common.{live_at}
use Rattle.protocol.specs.History.{rank_at}
use Rattle.protocol.proofs.History.{length-after_change}
use Rattle.protocol.proofs.keeps.ListKeeps.{live_count_put, rows_put}
use Rattle.cpu_words.specs.Common.{LeadsBelow, IsBefore, MayUnpublish, HasUnpublished, keeper_after_live, keeper_after_unpublish, links_with, IsShown}
use Rattle.passive_list.specs.Common.{AreRanksOf, KeptSlot, row_at, states_of, AreWritten, IsAtRest, MarksAgree, RowsAgree, IsOurKeeper, with_snapshots}
use Rattle.passive_list.proofs.Marks.{marks_written}
use Rattle.passive_list.proofs.Ranks.{rank_detach}
use Rattle.passive_list.proofs.Rows.{ranks_of, state_at, state_set, live_in, keeper_on, rows_stay}
use Rattle.passive_list.proofs.Attached.{LiveIn, rows_live, live_rows, leads_in}

before_on : (ranks : ℕ → ℕ) (xs ys : List Slot) (n : ℕ) (p : Option ℕ) → LiveIn xs ys → LiveIn ys xs → IsBefore ranks xs n p → IsBefore ranks ys n p
before_on ranks xs ys n None on back was = λ t f live. was t f (back t f live)
before_on ranks xs ys n (Some q) on back was = (was.0, on q was.0 was.1, was.2, λ u h live above. was.3 u h (back u h live) above)

-- where the rows say that the links beside the slot t lead: to it, and from it

abbrev pub StandsBefore : List KeptSlot → ℕ → Option ℕ → Type 0
StandsBefore rows t p = (ranks : ℕ → ℕ) → AreRanksOf ranks rows → IsBefore ranks (states_of rows) (row_at rows t).rank p

abbrev pub LeadsFrom : List KeptSlot → ℕ → ℕ → Type 0
LeadsFrom rows t v = (ranks : ℕ → ℕ) → AreRanksOf ranks rows → LeadsBelow ranks (states_of rows) (row_at rows t).rank v

-- as they were read: r is the slot's row, and xs are the rows

pub before_read : (rows xs : List KeptSlot) (t : ℕ) (r : KeptSlot) (p : Option ℕ) → r ≡ row_at rows t → xs ≡ rows
    → ((ranks : ℕ → ℕ) → AreRanksOf ranks xs → IsBefore ranks (states_of xs) r.rank p) → StandsBefore rows t p
before_read rows xs t r p row same had = λ ranks are.
    subst (λ (s : KeptSlot). IsBefore ranks (states_of rows) s.rank p) row (subst (λ (ys : List KeptSlot). IsBefore ranks (states_of ys) r.rank p) same (had ranks (subst (AreRanksOf ranks) (sym same) are)))

pub leads_read : (rows xs : List KeptSlot) (t : ℕ) (r : KeptSlot) (v : ℕ) → r ≡ row_at rows t → xs ≡ rows
    → ((ranks : ℕ → ℕ) → AreRanksOf ranks xs → LeadsBelow ranks (states_of xs) r.rank v) → LeadsFrom rows t v
leads_read rows xs t r v row same had = λ ranks are.
    subst (λ (s : KeptSlot). LeadsBelow ranks (states_of rows) s.rank v) row (subst (λ (ys : List KeptSlot). LeadsBelow ranks (states_of ys) r.rank v) same (had ranks (subst (AreRanksOf ranks) (sym same) are)))

-- so they lead by what the seat knows, of the slot's live entry e

pub before_row : (a : Settings) (k : KeeperView) (rows : List KeptSlot) (t : ℕ) (e : Entry) (p : Option ℕ) → IsAtRest a k → RowsAgree a k rows → (row_at rows t).state ≡ Live e
    → StandsBefore rows t p → IsBefore (rank_at k.history) k.slots (rank_at k.history e.number) p
before_row a k rows t e p at agree is before =
    let ranks = ranks_of a k rows agree in
    subst (λ (n : ℕ). IsBefore (rank_at k.history) k.slots n p) (ranks t e is)
    (before_on (rank_at k.history) (states_of rows) k.slots (row_at rows t).rank p (rows_live a k rows agree) (live_rows a k rows at agree) (before (rank_at k.history) ranks))

pub leads_row : (a : Settings) (k : KeeperView) (rows : List KeptSlot) (t : ℕ) (e : Entry) (v : ℕ) → IsAtRest a k → RowsAgree a k rows → (row_at rows t).state ≡ Live e
    → LeadsFrom rows t v → LeadsBelow (rank_at k.history) k.slots (rank_at k.history e.number) v
leads_row a k rows t e v at agree is link =
    subst (λ (n : ℕ). LeadsBelow (rank_at k.history) k.slots n v) (ranks_of a k rows agree t e is) (leads_in a k rows (row_at rows t).rank v at agree link)

pub may_unpublish : (a : Settings) (k : KeeperView) (rows : List KeptSlot) (t : ℕ) (e : Entry) (p : Option ℕ) (v : ℕ) → IsAtRest a k → RowsAgree a k rows → (row_at rows t).state ≡ Live e
    → StandsBefore rows t p → LeadsFrom rows t v → live_at k.lives t ≡ 0 → MayUnpublish k t p v
may_unpublish a k rows t e p v at agree is before link hidden = record {
  rest = at.rest;
  e = e;
  live = (live_in a k rows t e agree (state_at rows t ∙ is)).1;
  before = before_row a k rows t e p at agree is before;
  link = leads_row a k rows t e v at agree is link;
  hidden = hidden;
}

-- what retiring leaves, in one view
abbrev pub snapped : KeeperView → ℕ → Entry → Option ℕ → ℕ → List Mark → KeeperView
snapped k t e p v marks = with_snapshots (keeper_after_unpublish k t e p v) t marks

pub unpublished_is : (k l : KeeperView) (t : ℕ) (e : Entry) (p : Option ℕ) (v : ℕ) → slot_at k.slots t ≡ Live e → HasUnpublished k t p v l → l ≡ keeper_after_unpublish k t e p v
unpublished_is k l t e p v live told =
    let one : told.0 ≡ e = let q : Live told.0 ≡ Live e = sym told.1 ∙ live in cc in
    told.2 ∙ ap (λ (x : Entry). keeper_after_unpublish k t x p v) one

pub snapped_is : (k l m : KeeperView) (t : ℕ) (e : Entry) (p : Option ℕ) (v : ℕ) (marks : List Mark) → slot_at k.slots t ≡ Live e → HasUnpublished k t p v l → m ≡ with_snapshots l t marks
    → m ≡ snapped k t e p v marks
snapped_is k l m t e p v marks live told taken = taken ∙ ap (λ (x : KeeperView). with_snapshots x t marks) (unpublished_is k l t e p v live told)

-- its live word is stored

pub zero_stored : (lives : List ℕ) (t : ℕ) → live_at (set lives t 0) t ≡ 0
zero_stored [] t = refl
zero_stored (x ∷ xs) zero = refl
zero_stored (x ∷ xs) (suc t) = zero_stored xs t

pub stored_keeper : (a : Settings) (k l : KeeperView) (rows : List KeptSlot) (n t v : ℕ) → IsOurKeeper a k rows n → l ≡ keeper_after_live k t v → IsShown l → IsOurKeeper a l rows n
stored_keeper a k l rows n t v our change is_shown = keeper_on a l (keeper_after_live k t v) rows n change is_shown (assumption) our.changes (rows_stay a k (keeper_after_live k t v) rows refl refl refl refl our.rows)

pub links_size : (next : List ℕ) (p : Option ℕ) (v : ℕ) → length (links_with next p v) ≡ length next
links_size next None v = refl
links_size next (Some q) v = length-set next q v

detached_at_rest : (a : Settings) (k : KeeperView) (t : ℕ) (e : Entry) (p : Option ℕ) (v : ℕ) (marks : List Mark) → IsAtRest a k → t < a.slots → slot_at k.slots t ≡ Live e → length marks ≡ MOST_CPUS
    → IsAtRest a (snapped k t e p v marks)
detached_at_rest a k t e p v marks at lt live size =
    let fresh = replicate MOST_CPUS no_mark in
    let less : live_count (set k.slots t (Retired e)) + 1 ≡ live_count k.slots + 0 = live_count_put k.slots t (Live e) (Retired e) (omega (arith, lt, at.sized.slots)) live in
    let room : length (snapped k t e p v marks).history + live_count (set k.slots t (Retired e)) ≤ a.change_limit = omega (arith, less, length-after_change k.history (Detach e.number), at.room) in
    assumption (
      length-set k.slots t (Retired e) ∙ at.sized.slots,
      length-set (set k.marks t fresh) t marks ∙ (length-set k.marks t fresh ∙ at.sized.marks),
      rows_put (set k.marks t fresh) t marks size (rows_put k.marks t fresh refl at.sized.mark_rows),
      links_size k.next p v ∙ at.sized.next,
      room,
    )

abbrev pub row_retired : KeptSlot → Entry → KeptSlot
row_retired r e = record { state = Retired e; total = r.total; keeps = r.keeps; rank = r.rank }

pub detached_keeper : (a : Settings) (k l : KeeperView) (rows : List KeptSlot) (n t : ℕ) (e : Entry) (p : Option ℕ) (v : ℕ) (marks : List Mark) → IsOurKeeper a k rows n
    → (row_at rows t).state ≡ Live e → length marks ≡ MOST_CPUS
    → l ≡ snapped k t e p v marks → IsShown l → IsOurKeeper a l (set rows t (row_retired (row_at rows t) e)) (n + 1)
detached_keeper a k l rows n t e p v marks our is marks_size change is_shown =
    let live = live_in a k rows t e our.rows (state_at rows t ∙ is) in
    let m = snapped k t e p v marks in
    keeper_on a l m (set rows t (row_retired (row_at rows t) e)) (n + 1) change is_shown (detached_at_rest a k t e p v marks our.view live.0 live.1 marks_size)
    (omega (arith, our.changes, length-after_change k.history (Detach e.number))) (state_set a k m rows t (Retired e) (row_at rows t).rank our.view.sized.slots our.rows live.0 refl refl refl (λ vacant. cc) (λ f is. cc)
    (λ u f is. rank_detach k.history e.number f.number))

-- and its marks with those that were taken
pub taken_marks : (a : Settings) (k l : KeeperView) (ms ns : List Mark) (t : ℕ) (row : List Mark) → IsAtRest a k → MarksAgree a k ms → t < a.slots → AreWritten (t * a.cpus) a.cpus row ms ns
    → l.marks ≡ set (set k.marks t (replicate MOST_CPUS no_mark)) t row → MarksAgree a l ns
taken_marks a k l ms ns t row at had lt written change =
    let fresh = replicate MOST_CPUS no_mark in
    marks_written a k l ms ns t row had written
    (ap (λ (x : List (List Mark)). get_or x t []) change ∙ get_or-set_same (set k.marks t fresh) t row [] (omega (arith, lt, at.sized.marks, length-set k.marks t fresh)))
    (λ u off. ap (λ (x : List (List Mark)). get_or x u []) change ∙ get_or-set_other (set k.marks t fresh) t u row [] off ∙ get_or-set_other k.marks t u fresh [] off)
