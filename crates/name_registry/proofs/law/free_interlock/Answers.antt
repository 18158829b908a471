use Rattle.name_registry.proofs.Tallies.{free_law}
use Rattle.name_registry.proofs.law.free_interlock.Goals as goal

pub returns : goal.returns
returns c = record { law = free_law c.args.keeper.now.words.settings c.args.keeper.now.keeper c.settings-settings.ensures.own.1.agree.view.rest }
