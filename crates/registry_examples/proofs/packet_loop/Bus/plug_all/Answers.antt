use Rattle.std.proofs.Common.{◌≡◌, ℕ, ◌*◌, subst, arith}
use Rattle.registry_examples.specs.{MakesAtMost}
use Rattle.registry_examples.proofs.Frees.{once_more}
use Rattle.registry_examples.proofs.Accounted.{plugged_more}
use Rattle.registry_examples.proofs.packet_loop.Bus.plug_all.Goals as goal

pub loop-plug-preserved : goal.loop-plug-preserved
loop-plug-preserved g c =
    let was = c.loop-plug.invariant in
    let into = c.in_ok-plug_in.ensures in
    let out = c.in_ok-pull_out.ensures in (
      once_more c.loop-plug.plug c.loop-plug.cpu.known_log c.plug_in.new.cpu.known_log c.pull_out.new.cpu.known_log was.0 into.known out.freed,
      plugged_more c.loop-plug.plug c.args.cpu c.loop-plug.cpu c.plug_in.new.cpu c.pull_out.new.cpu was.1 into.made out.made,
    )

pub returns-clause-made : goal.returns-clause-made
returns-clause-made g c =
    let most = c.loop-plug.auto.plug-end in
    let least = c.loop-plug-test.false in
    let all : 2 * c.loop-plug.plug ≡ 16 = omega (arith, most, least) in
    subst (λ (k : ℕ). MakesAtMost k c.args.cpu c.loop-plug.cpu) all c.loop-plug.invariant.1
