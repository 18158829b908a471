-- The count of the place decides, where something was found.
use Rattle.std.proofs.Common.{◌≡◌, ◌+◌, ap, ◌∙◌, arith, subst, sym, None}
use Rattle.passive_list.specs.Types.{Settings}
use Rattle.registry_values.specs.Common.{why_uncounted, bias}
use Rattle.passive_list.specs.declared.place.NumberedCount.{NumberedCount}
use Rattle.passive_list.specs.Common.{OnPlainCpu}
use Rattle.passive_list.proofs.Agreeing.{found_as, found_none, place_is}
use Rattle.local_count.specs.{net_by, why_not_acquired_local}
use Rattle.local_count.proofs.References.{nothing_found, why_by_place}
use Rattle.local_count.proofs.counting.why_not_acquired_local.Goals as goal

pub returns-then-found-eq0 : goal.returns-then-found-eq0
returns-then-found-eq0 c =
    nothing_found c.args.cpu.now.cpu.view (subst (λ (o : OnPlainCpu). o.cpu.view.found ≡ None) c.cpu.view_is (found_none _ _ c.cpu.invariant.is_shown c.cpu.invariant.found c.if-found-eq0.true))

pub index-requires : goal.index-requires
index-requires c =
    let kept = found_as _ _ c.cpu.invariant.is_shown c.cpu.invariant.found c.if-found-eq0.false in
    omega (arith, kept.within, c.cpu.invariant.net.size, c.cpu.inside.net.ok.0)

pub returns : goal.returns
returns c =
    let limit : c.settings.result.count_limit ≡ c.cpu.inside.seat.view.settings.count_limit =
    ap (λ (z : Settings). z.count_limit) (c.settings.ensures ∙ c.requires.words.1 ∙ ap (λ (o : OnPlainCpu). o.words.settings) (sym c.cpu.view_is)) in
    let kept = found_as _ _ c.cpu.invariant.is_shown c.cpu.invariant.found c.if-found-eq0.false in
    c.why_uncounted.ensures.value
    ∙ subst (λ (o : OnPlainCpu). why_uncounted c.net_count-count.result (bias + c.settings.result.count_limit) ≡ why_not_acquired_local o.cpu.view o.cpu.view.found) c.cpu.view_is
    (why_by_place _ _ _ _ _ _ _ _ _ _ _ _ _ kept c.cpu.invariant
    (c.net_count-count.ensures ∙ ap (λ (p : NumberedCount). net_by p c.cpu.inside.found.number) (place_is _ c.cpu.inside.found.slot _ c.index.ensures (omega (arith, kept.within, c.cpu.invariant.net.size)))) limit)
