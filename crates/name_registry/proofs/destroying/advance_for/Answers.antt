use Rattle.std.proofs.Common.{subst}
use Rattle.name_registry.specs.Types.{Settings}
use Rattle.name_registry.specs.Common.{HasAdvancedFor}
use Rattle.name_registry.proofs.Destroyed.{made_turn, told_turn}
use Rattle.name_registry.proofs.destroying.advance_for.Goals as goal

pub returns-clause-answer : goal.returns-clause-answer
returns-clause-answer c =
    let hear = c.hear_cpu.ensures in
    let again = c.hear_cpu-2.ensures in
    let show = c.show_cpu.ensures in
    subst (λ (z : Settings). HasAdvancedFor z c.args.keeper.now.keeper c.args.cpu.now.cpu c.args.number c.advance_in-answer.result c.show_cpu.new.keeper.keeper c.show_cpu.new.cpu.cpu)
    c.requires.words.1
    (made_turn _ _ _ _ _ _ _ _ _ _ _ _ hear.known hear.seen hear.own hear.keeper hear.cpu c.advance_in-answer.ensures.answer again.own again.keeper again.cpu show.keeper show.cpu show.told show.log)

pub returns-clause-turn : goal.returns-clause-turn
returns-clause-turn c =
    told_turn c.args.keeper.now.words.settings c.args.keeper.now.keeper c.args.cpu.now.cpu c.args.number _ c.show_cpu.new.keeper.keeper c.show_cpu.new.cpu.cpu (returns-clause-answer c)
