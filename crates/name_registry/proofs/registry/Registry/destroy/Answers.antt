use Rattle.std.proofs.Common.{◌≡◌, ◌∙◌, false, sym}
use Rattle.name_registry.specs.Common.{is_inside}
use Rattle.name_registry.proofs.Attached.{inside_is}
use Rattle.name_registry.proofs.Destroyed.{destroyed_forever, destroyed_gone, destroyed_refused, destroyed_told, learns_destroyed}
use Rattle.name_registry.proofs.registry.Registry.destroy.Goals as goal

pub returns-clause-refused : goal.returns-clause-refused
returns-clause-refused g c =
    let outside : is_inside c.args.cpu.now ≡ false = sym (inside_is _ _ c.inside.ensures) ∙ c.if-inside.false in
    destroyed_refused g.D.Domain.settings c.args.number c.args.turns (is_inside c.args.cpu.now) c.args.cpu.now c.destroy_in_turns.new.cpu c.destroy_in_turns.result outside c.destroy_in_turns.ensures

pub returns-clause-gone : goal.returns-clause-gone
returns-clause-gone g c = destroyed_gone g.D.Domain.settings c.args.number c.args.turns c.args.cpu.now c.destroy_in_turns.new.cpu c.destroy_in_turns.result c.destroy_in_turns.ensures

pub returns-clause-answer : goal.returns-clause-answer
returns-clause-answer g c = destroyed_told g.D.Domain.settings c.args.number c.args.turns c.args.cpu.now c.destroy_in_turns.new.cpu c.destroy_in_turns.result c.destroy_in_turns.ensures

pub returns-clause-learned : goal.returns-clause-learned
returns-clause-learned g c = learns_destroyed g.D.Domain.settings c.args.number c.args.turns c.args.cpu.now c.destroy_in_turns.new.cpu c.destroy_in_turns.result c.destroy_in_turns.ensures

pub returns-clause-forever : goal.returns-clause-forever
returns-clause-forever g c = destroyed_forever g.D.Domain.settings c.args.number c.args.turns c.args.cpu.now c.destroy_in_turns.new.cpu c.destroy_in_turns.result c.destroy_in_turns.ensures
