-- The call by the key is the call through the handle.
use Rattle.c_calls.specs.Calls.{EntersAndFindsFor}
use Rattle.c_calls.proofs.Asked.{tells}
use Rattle.c_calls.proofs.lookups.enter_find.Goals as goal

pub returns-clause-call : goal.returns-clause-call
returns-clause-call c =
    let call = c.enter_find_key in
    tells c.args.cpu.now.body c.in-Some.body.now call.new.cpu c.args.kind c.args.name.name c.name.result c.in-Ok.key c.args.found.value call.result _ c.with_name-2.result EntersAndFindsFor
    c.in-Some.ensures.value c.name.ensures.1 c.in-Ok.ensures.value c.with_name-2.ensures call.ensures.call
