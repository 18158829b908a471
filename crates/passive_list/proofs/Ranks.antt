-- Ranks as a history grows: an attach and a detach leave them all.
use Rattle.std.proofs.Common.{◌≡◌, ⊎_elim, ℕ, suc, ◌<◌, ◌≤◌, List, length, Option, Some, None, refl, sym, ap, ◌∙◌, subst, arith}
use Rattle.std.proofs.lemmas.Bool.{cases_eq, cases_lt}
use Rattle.passive_list.specs.Types.{Entry, Change, Attach, Detach, Slot, Live, KeeperView}
use Rattle.registry_values.specs.Common.{slot_at}
use Rattle.protocol.specs.Common.{after_change, rank_by, IsLiveAt}
use Rattle.protocol.specs.History.{change_at, rank_at}
use Rattle.protocol.proofs.History.{at_new, at_within, length-after_change, rank_is, rank_old}
use Rattle.cpu_words.specs.Common.{IsShown}
use Rattle.cpu_words.proofs.by_keeper.KeeperSteps.{seen_by_keeper}

-- past the end of a history a number is its own rank
pub rank_out : (h : List Change) (n : ℕ) → length h < n → rank_at h n ≡ n
rank_out h n lt = by (change_at h n) refl
  where
    by : (x : Option Change) → change_at h n ≡ x → rank_at h n ≡ n
    by None is = rank_is h n None is
    by (Some x) is = absurd (omega (arith, lt, (at_within h n x is).1))

rank_plain : (h : List Change) (c : Change) (n : ℕ) → rank_by (suc (length h)) (Some c) ≡ suc (length h) → rank_at (after_change h c) n ≡ rank_at h n
rank_plain h c n own = ⊎_elim
    (λ (lt : n < suc (length h)). rank_old h c n (omega arith))
    (λ (ge : suc (length h) ≤ n). ⊎_elim
    (λ (same : n ≡ suc (length h)). subst (λ (m : ℕ). rank_at (after_change h c) m ≡ rank_at h m) (sym same)
    (rank_is (after_change h c) (suc (length h)) (Some c) (at_new h c) ∙ own ∙ sym (rank_out h (suc (length h)) (omega arith))))
    (λ (off : n ≡ suc (length h) → ⊥). rank_out (after_change h c) n (omega (arith, ge, off, length-after_change h c)) ∙ sym (rank_out h n (omega (arith, ge))))
    (cases_eq n (suc (length h))))
    (cases_lt n (suc (length h)))

pub rank_attach : (h : List Change) (e : Entry) (n : ℕ) → rank_at (after_change h (Attach e)) n ≡ rank_at h n
rank_attach h e n = rank_plain h (Attach e) n refl

pub rank_detach : (h : List Change) (m n : ℕ) → rank_at (after_change h (Detach m)) n ≡ rank_at h n
rank_detach h m n = rank_plain h (Detach m) n refl

-- what is live is so at the end of the history that the keeper knows
pub live_now : (k : KeeperView) (t : ℕ) (e : Entry) → IsShown k → slot_at k.slots t ≡ Live e → IsLiveAt k.history (length k.history) e
live_now k t e is_shown live =
    let g = is_shown.g in
    let seen = seen_by_keeper g k is_shown.good is_shown.shown in
    subst (λ (h : List Change). IsLiveAt h (length h) e) (sym seen.history) (is_shown.good.holds.slots.live t e (ap (λ (xs : List Slot). slot_at xs t) (sym seen.slots) ∙ live)).0
