use Rattle.std.proofs.Common.{◌≡◌, ◌<◌, true, false, not, ap, ◌∙◌, arith, length, length-set}
use Rattle.protocol.specs.Common.{is_inside, State}
use Rattle.registry_values.proofs.Fit.{ranges}
use Rattle.passive_core.proofs.Performing.{sound_out, written_below, written_each}
use Rattle.passive_core.proofs.machine.Core.glance_at_all.Goals as goal

pub loop-c-preserved : goal.loop-c-preserved
loop-c-preserved c =
    let s = c.args.self.now in
    let l = c.loop-c in
    let here : c.is_seen.result ≡ not (is_inside s l.c) = c.is_seen.ensures.seen ∙ ap (λ (x : State). not (is_inside x l.c)) l.invariant.same in
    let low : l.c < length l.seen = omega (arith, c.loop-c-test.true, l.invariant.long, (ranges c.self.inside.settings c.self.invariant.fit).cpus) in
    record {
      same = c.is_seen.ensures.same ∙ l.invariant.same;
      long = length-set l.seen l.c c.is_seen.result ∙ l.invariant.long;
      seen = written_below false (λ d b. b ≡ not (is_inside s d)) l.seen l.c c.is_seen.result low l.invariant.seen here;
      sound = written_each false (λ d b. b ≡ true → is_inside s d ≡ false) l.seen l.c c.is_seen.result low l.invariant.sound (λ is. sound_out c.is_seen.result (is_inside s l.c) here is);
    }
