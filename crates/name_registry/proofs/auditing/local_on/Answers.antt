-- A CPU's place says its net count.
use Rattle.std.proofs.Common.{◌≡◌, List, ap, sym, ◌∙◌, subst, arith}
use Rattle.std.proofs.lemmas.Int.{ints}
use Rattle.name_registry.specs.Types.{NumberedCount}
use Rattle.passive_list.specs.Common.{OnPlainCpu, place_at}
use Rattle.local_count.specs.{net_by}
use Rattle.local_count.proofs.References.{net_most}
use Rattle.name_registry.specs.Common.{net_met}
use Rattle.name_registry.proofs.Audits.{local_is, net_is}
use Rattle.name_registry.proofs.auditing.local_on.Goals as goal

pub returns-else-is_collected-clause-value : goal.returns-else-is_collected-clause-value
returns-else-is_collected-clause-value c =
    let id = ap (λ (x : OnPlainCpu). x.cpu.view.id) (sym c.cpu.view_is) ∙ c.cpu.invariant.id in
    let says = c.net_count.ensures ∙ ap (λ (p : NumberedCount). net_by p c.args.number) (c.net_place.ensures ∙ ap (λ (l : List NumberedCount). place_at l c.args.t) c.as_slice.ensures.value) in
    let net = net_is _ c.cpu.inside.depth 0 c.cpu.inside.memory c.cpu.inside.seat.known_log c.cpu.inside.seat.log _ _ _ _ c.cpu.invariant.net c.requires.1 says in
    let says = subst (λ (x : OnPlainCpu). c.less_bias.result ≡ net_met c.args.t c.args.number x.cpu) c.cpu.view_is (c.less_bias.ensures ∙ net) in
    omega (arith, ints, local_is c.args.keeper.now.keeper c.args.cpu.now.cpu _ _ _ _ id (sym c.is_collected.ensures ∙ c.if-is_collected.false) says, c.less_bias.type_inv)

pub returns-else-is_collected-clause-range : goal.returns-else-is_collected-clause-range
returns-else-is_collected-clause-range c =
    let place = c.net_place.ensures ∙ ap (λ (l : List NumberedCount). place_at l c.args.t) c.as_slice.ensures.value in
    let most = net_most _ _ c.args.t c.args.number _ c.cpu.invariant.net (c.net_count.ensures ∙ ap (λ (p : NumberedCount). net_by p c.args.number) place) in
    omega (arith, ints, most, c.less_bias.ensures, c.less_bias.type_inv)
