-- What the acquire gave is written.
use Rattle.std.proofs.Common.{subst}
use Rattle.passive_list.specs.Common.{OnPlainCpu}
use Rattle.c_calls.specs.References.{AcquiresInside}
use Rattle.c_calls.proofs.Passives.{acquired_into}
use Rattle.c_calls.proofs.references.acquire_inside.Goals as goal

pub returns : goal.returns
returns c =
    let made = c.acquire_entry-made in
    let put = c.put_acquired in
    subst (λ (a : OnPlainCpu). AcquiresInside c.args.entry c.args.key a made.new.cpu put.result c.args.reference.now put.new.reference) c.cpu.view_is
    (acquired_into c.args.entry c.args.key c.cpu.inside.cpu made.new.cpu made.result c.id-id.result put.result c.args.reference.now put.new.reference c.id-id.ensures put.ensures.number
    made.ensures.acquired put.ensures.refused put.ensures.writes made.ensures.words)
