use Rattle.std.proofs.Common.{Ok, sym, ◌∙◌}
use Rattle.name_registry.proofs.Destroyed.{advanced_gone}
use Rattle.name_registry.proofs.advancing.advance_in.Goals as goal

pub returns-clause-gone : goal.returns-clause-gone
returns-clause-gone c = advanced_gone c.args.keeper.now.keeper c.args.number (Ok c.advance_slot.result) c.advance_slot.new.keeper.keeper
    (c.in-Some.slot, sym c.retired_place.ensures.value ∙ c.in-Some.is, c.advance_slot.ensures.meets)
