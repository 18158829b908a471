use Rattle.std.proofs.Common.{subst}
use Rattle.name_registry.specs.Types.{Settings}
use Rattle.name_registry.specs.Common.{HasPassedAll}
use Rattle.name_registry.proofs.Passed.{made_passes}
use Rattle.name_registry.proofs.glancing.pass_all.Goals as goal

pub returns-clause-passed : goal.returns-clause-passed
returns-clause-passed c =
    let hear = c.hear_cpu.ensures in
    let again = c.hear_cpu-2.ensures in
    let show = c.show_cpu.ensures in
    subst (λ (z : Settings). HasPassedAll z c.args.keeper.now.keeper c.args.cpu.now.cpu c.args.retired.now c.show_cpu.new.keeper.keeper c.show_cpu.new.cpu.cpu) c.requires.words.1
    (made_passes _ _ _ _ _ _ _ _ _ _ _ hear.known hear.keeper hear.cpu c.pass_entries.ensures.passes again.own again.keeper again.cpu show.keeper show.cpu show.told show.log)
