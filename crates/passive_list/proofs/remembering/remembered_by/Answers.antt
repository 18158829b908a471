-- What the row says, that is remembered, is an entry's.
use Rattle.std.proofs.Common.{subst}
use Rattle.registry_values.proofs.Fit.{ranges}
use Rattle.passive_list.specs.Common.{ByWord, OnPlainCpu, RemembersSo}
use Rattle.passive_list.proofs.ByMemory.{remembers_by}
use Rattle.passive_list.proofs.remembering.remembered_by.Goals as goal

pub returns : goal.returns
returns c =
    subst (λ (o : OnPlainCpu). ByWord c.args.word c.remembered.result (RemembersSo o c.args.name)) c.cpu.view_is
    (remembers_by _ c.args.word c.args.name c.remembered.result c.cpu.invariant.memory ((ranges c.cpu.inside.seat.view.settings c.cpu.invariant.fit).slots) c.requires c.remembered.ensures)
