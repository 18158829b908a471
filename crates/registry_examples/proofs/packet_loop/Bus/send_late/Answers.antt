use Rattle.std.proofs.Common.{arith}
use Rattle.passive_ref.specs.{why_unusable}
use Rattle.registry_examples.proofs.Searched.{read_answers, release_answers}
use Rattle.registry_examples.proofs.packet_loop.Bus.send_late.Goals as goal

pub returns-in-Some-clause-log : goal.returns-in-Some-clause-log
returns-in-Some-clause-log g c =
    let x = c.args.cpu.now in
    let y = c.read-rec.new.cpu in
    let p = c.args.psref in
    omega (
      arith,
      read_answers x y (why_unusable x.view p) p.number c.read-rec.result c.read-rec.ensures.answer c.read-rec.ensures.refused,
      release_answers y c.release.new.cpu (why_unusable y.view p) p c.release.result c.release.ensures.answer c.release.ensures.refused,
    )
