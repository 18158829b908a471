-- A `Cpu` walks as the `PlainCpu` in it does.
use Rattle.std.proofs.Common.{◌≡◌, ◌≤◌, ℕ, length, take, sym, ap, ◌∙◌, subst, arith}
use Rattle.passive_list.specs.Types.{Settings}
use Rattle.passive_list.specs.Common.{OnCpu, OnPlainCpu, HasWalked}
use Rattle.passive_list.proofs.GoingOver.{all_written, walked_by}
use Rattle.passive_list.proofs.Sharing.{shared, sharing}
use Rattle.passive_list.proofs.walks.walk.Goals as goal

pub returns-clause-walked : goal.returns-clause-walked
returns-clause-walked g c =
    let m = c.cpu.inside.share.amount in
    let y = c.walk_on.new.cpu.cpu in
    let had = c.walk_on.ensures.walked in
    let named : c.deref_mut.result.now.words.settings ≡ g.D.Domain.settings = ap (λ (o : OnPlainCpu). o.words.settings) c.deref_mut.ensures.value ∙ c.cpu.invariant.0.1 in
    let room : length had.0 ≤ length c.args.row.now = omega (arith, had.1, ap (λ (z : Settings). z.slots) named) in
    let row : take c.walk_on.result c.walk_on.new.row ≡ had.0 =
    ap (λ (n : ℕ). take n c.walk_on.new.row) had.1 ∙ all_written had.0 c.args.row.now c.walk_on.new.row room had.3 in
    subst (HasWalked c.args.cpu.now (sharing m y)) (sym row)
    (subst (λ (x : OnCpu). HasWalked x (sharing m y) had.0) (shared m _ _ _ c.deref_mut.ensures.value c.cpu.view_is) (walked_by c.deref_mut.result.now.cpu y m had.0 had.2))
