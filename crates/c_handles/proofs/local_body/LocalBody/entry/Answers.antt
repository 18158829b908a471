-- The slot is that of the reference's entry.
use Rattle.std.proofs.Common.{ap, arith}
use Rattle.c_handles.specs.Bodies.{OnLocalBody}
use Rattle.c_handles.proofs.local_body.LocalBody.entry.Goals as goal

pub load_local-high-requires-clause-place : goal.load_local-high-requires-clause-place
load_local-high-requires-clause-place c = (omega (arith, c.requires.words.1, c.self.invariant.slot, c.self.invariant.few, ap (λ (o : OnLocalBody). o.reference.entry.slot) c.self.view_is), omega arith)

pub load_local-low-requires-clause-place : goal.load_local-low-requires-clause-place
load_local-low-requires-clause-place c = (omega (arith, c.requires.words.1, c.self.invariant.slot, c.self.invariant.few, ap (λ (o : OnLocalBody). o.reference.entry.slot) c.self.view_is), omega arith)

pub load_local-value-requires-clause-place : goal.load_local-value-requires-clause-place
load_local-value-requires-clause-place c = (omega (arith, c.requires.words.1, c.self.invariant.slot, c.self.invariant.few, ap (λ (o : OnLocalBody). o.reference.entry.slot) c.self.view_is), omega arith)
