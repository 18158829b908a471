-- Its entry's number isn't 0.
use Rattle.std.proofs.Common.{ap}
use Rattle.c_handles.specs.OnHandle.{held_by}
use Rattle.c_handles.proofs.OnHandle.{is_full}
use Rattle.c_handles.proofs.local_handle.LocalHandle.is_empty.Goals as goal

pub returns-clause-full : goal.returns-clause-full
returns-clause-full c some = is_full c.args.self.now c.self.inside.block.body c.self.inside.share.body c.self.inside.entry (ap held_by c.self.view_is) c.self.invariant some
