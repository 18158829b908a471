use Rattle.std.proofs.Common.{◌≡◌, ℕ, zero, suc, ◌-◌, ◌<◌, ◌≤◌, List, length, get_or, Some, sym, ap, ◌∙◌, arith}
use Rattle.std.proofs.lemmas.Option.{slice_get-get_or}
use Rattle.passive_core.specs.Types.{Change}
use Rattle.protocol.specs.Common.{State, rank_by}
use Rattle.protocol.specs.History.{change_at, rank_at}
use Rattle.protocol.proofs.History.{rank_is}
use Rattle.protocol.proofs.Either.{either}
use Rattle.passive_core.proofs.machine.Core.rank_at.Goals as goal

-- the rank of a number, by the change in its place
rank_there : (h : List Change) (n : ℕ) (x : Change) → 0 < n → n ≤ length h → x ≡ get_or h (n - 1) x → rank_at h n ≡ rank_by n (Some x)
unfolding change_at
rank_there h zero x some le at = absurd (omega arith)
rank_there h (suc k) x some le at =
    let place : suc k - 1 ≡ k = omega arith in
    rank_is h (suc k) (Some x) (slice_get-get_or h k x (omega arith) ∙ ap (λ (c : Change). Some c) (sym (at ∙ ap (λ (j : ℕ). get_or h j x) place)))

rank_read : {i s : State} → (n : ℕ) (x : Change) → i ≡ s → 0 < n → n ≤ length s.history → x ≡ get_or i.history (n - 1) x → rank_by n (Some x) ≡ rank_at s.history n
rank_read {i} {s} n x view some le at =
    let size : length i.history ≡ length s.history = ap (λ (z : State). length z.history) view in
    sym (rank_there i.history n x some (omega arith) at) ∙ ap (λ (z : State). rank_at z.history n) view

pub returns-in-Replace : goal.returns-in-Replace
returns-in-Replace c =
    ap (λ (x : Change). rank_by c.args.number (Some x)) (sym c.in-Replace.is)
    ∙ rank_read c.args.number c.index.result.now c.self.view_is c.requires.above c.requires.within c.index.ensures

pub returns-in-Attach : goal.returns-in-Attach
returns-in-Attach c = either c.in-Attach.is
    (λ attach. ap (λ (x : Change). rank_by c.args.number (Some x)) (sym attach.1)
    ∙ rank_read c.args.number c.index.result.now c.self.view_is c.requires.above c.requires.within c.index.ensures)
    (λ detach. ap (λ (x : Change). rank_by c.args.number (Some x)) (sym detach.1)
    ∙ rank_read c.args.number c.index.result.now c.self.view_is c.requires.above c.requires.within c.index.ensures)
