-- The call by C's words is the call through the handle.
use Rattle.std.proofs.Common.{sym, ◌∙◌}
use Rattle.c_calls.specs.Calls.{LooksUpFor}
use Rattle.c_calls.proofs.Asked.{tells_given}
use Rattle.c_calls.proofs.lookups.look_up.Goals as goal

pub returns-clause-call : goal.returns-clause-call
returns-clause-call c =
    let call = c.look_up_given in
    tells_given c.args.cpu.now.body c.in-Some.body.now call.new.cpu c.args.kind c.args.name.name c.in-Some-name.given c.args.found.value call.result _ c.with_name-2.result LooksUpFor c.in-Some.ensures.value
    (sym c.in-Some-name.is ∙ c.name.ensures.1) c.with_name-2.ensures call.ensures.call
