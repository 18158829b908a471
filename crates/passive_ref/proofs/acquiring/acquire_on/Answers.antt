-- The last found entry is in the pass.
use Rattle.std.proofs.Common.{◌≡◌, inl, sym, subst, None}
use Rattle.passive_list.specs.Common.{OnPlainCpu}
use Rattle.passive_list.proofs.Agreeing.{IsFoundAs, found_as, found_none}
use Rattle.passive_ref.proofs.Changing.{acquired, not_acquired}
use Rattle.passive_ref.proofs.acquiring.acquire_on.Goals as goal

pub returns-then-found-eq0-clause-answer : goal.returns-then-found-eq0-clause-answer
returns-then-found-eq0-clause-answer c =
    let none = subst (λ (o : OnPlainCpu). o.cpu.view.found ≡ None) c.cpu.view_is (found_none _ _ c.cpu.invariant.is_shown c.cpu.invariant.found c.if-found-eq0.true) in
    not_acquired c.args.cpu.now.cpu c.args.cpu.now.cpu none

pub add-requires-clause-known : goal.add-requires-clause-known
add-requires-clause-known c =
    let kept = subst (λ (o : OnPlainCpu). IsFoundAs o.cpu.view c.cpu.inside.found) c.cpu.view_is (found_as _ _ c.cpu.invariant.is_shown c.cpu.invariant.found c.if-found-eq0.false) in
    record { entry = kept.entry; at = record { slot = sym kept.slot; number = sym kept.number }; known = inl kept.found; few = kept.within }

pub returns-clause-answer : goal.returns-clause-answer
returns-clause-answer c =
    let kept = subst (λ (o : OnPlainCpu). IsFoundAs o.cpu.view c.cpu.inside.found) c.cpu.view_is (found_as _ _ c.cpu.invariant.is_shown c.cpu.invariant.found c.if-found-eq0.false) in
    acquired c.cpu.inside.found c.args.cpu.now.cpu _ _ kept c.add.ensures.answer
