-- What is kept of the last found entry says which one it is.
use Rattle.std.proofs.Common.{◌≡◌, None, subst}
use Rattle.std.proofs.lemmas.Bool.{eqb-true, eqb-false}
use Rattle.passive_list.specs.Common.{OnPlainCpu}
use Rattle.passive_list.proofs.Agreeing.{IsFoundAs, found_as, found_none, is_last, none_last, not_last}
use Rattle.passive_list.proofs.last_found.is_found_last.Goals as goal

pub returns-then-found-eq0-clause-no : goal.returns-then-found-eq0-clause-no
returns-then-found-eq0-clause-no c _ =
    none_last c.args.cpu.now.cpu.view _ (subst (λ (o : OnPlainCpu). o.cpu.view.found ≡ None) c.cpu.view_is (found_none _ _ c.cpu.invariant.is_shown c.cpu.invariant.found c.if-found-eq0.true))

pub returns-clause-yes : goal.returns-clause-yes
returns-clause-yes c same =
    let kept = subst (λ (o : OnPlainCpu). IsFoundAs o.cpu.view c.cpu.inside.found) c.cpu.view_is (found_as _ _ c.cpu.invariant.is_shown c.cpu.invariant.found c.if-found-eq0.false) in
    is_last c.args.cpu.now.cpu.view c.cpu.inside.found _ kept (eqb-true _ _ same)

pub returns-clause-no : goal.returns-clause-no
returns-clause-no c off =
    let kept = subst (λ (o : OnPlainCpu). IsFoundAs o.cpu.view c.cpu.inside.found) c.cpu.view_is (found_as _ _ c.cpu.invariant.is_shown c.cpu.invariant.found c.if-found-eq0.false) in
    not_last c.args.cpu.now.cpu.view c.cpu.inside.found _ kept (eqb-false _ _ off)
