use Rattle.std.proofs.Common.{inl, inr, refl}
use Rattle.passive_core.specs.Types.{LoadLink, LoadRecord}
use Rattle.protocol.specs.declared.event.RecordOf.TheVariants.{Search as OfSearch}
use Rattle.passive_core.proofs.machine.Core.load_next.Goals as goal

pub returns-in-Some-AtHead-clause-event : goal.returns-in-Some-AtHead-clause-event
returns-in-Some-AtHead-clause-event c = (LoadLink c.args.c, inl refl, c.make.ensures)

pub returns-in_default-clause-event : goal.returns-in_default-clause-event
returns-in_default-clause-event c = (LoadRecord (OfSearch c.args.c), inr refl, c.make-in_default.ensures)
