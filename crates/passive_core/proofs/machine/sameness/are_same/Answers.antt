use Rattle.std.proofs.lemmas.Slice.Eq.{slice_eq-Decides}
use Rattle.passive_core.proofs.machine.sameness.are_same.Goals as goal

pub returns : goal.returns
returns g c = slice_eq-Decides c.requires.exact c.args.a.now c.args.b.now c.eq.result c.eq.ensures
