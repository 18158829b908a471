use Rattle.std.proofs.Common.{◌≡◌, ◌<◌, ap, ◌∙◌, arith, length, length-set}
use Rattle.protocol.specs.Common.{State, section_at}
use Rattle.registry_values.proofs.Fit.{ranges}
use Rattle.passive_core.proofs.Performing.{written_below}
use Rattle.passive_core.proofs.machine.Core.snapshot_all.Goals as goal

pub loop-c-preserved : goal.loop-c-preserved
loop-c-preserved c =
    let s = c.args.self.now in
    let l = c.loop-c in
    let low : l.c < length l.words = omega (arith, c.loop-c-test.true, l.invariant.long, (ranges c.self.inside.settings c.self.invariant.fit).cpus) in
    record {
      same = c.snapshot_of.ensures.same ∙ l.invariant.same;
      long = length-set l.words l.c c.snapshot_of.result ∙ l.invariant.long;
      words = written_below 0 (λ d w. w ≡ section_at s d) l.words l.c c.snapshot_of.result low l.invariant.words (c.snapshot_of.ensures.word ∙ ap (λ (x : State). section_at x l.c) l.invariant.same);
    }
