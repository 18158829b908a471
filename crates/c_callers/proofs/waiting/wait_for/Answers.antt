-- A wait of two turns by one CPU.
use Rattle.std.proofs.Common.{◌∙◌}
use Rattle.c_callers.proofs.Waits.{both, same_cpu}
use Rattle.c_callers.proofs.waiting.wait_for.Goals as goal

pub returns : goal.returns
returns c =
    let k = c.args.keeper.now in
    let x = c.args.cpu.now in
    let m = c.begin.new.cpu in
    let n = c.turn-first.new.cpu in
    let y = c.turn-second.new.cpu in
    let a = c.begin.ensures in
    let b = c.turn-first.ensures in
    let d = c.turn-second.ensures in
    let under = b.goes_on k.words x m a.words.0 a.begun (same_cpu m) in
    let met = d.done k.words x n (b.words.0 ∙ a.words.0) under (same_cpu n) in
    record {
      met = met;
      seen = λ none. c.waits_law.ensures.waited k.words x y (met none);
      ended = λ none. c.waits_law.ensures.ended k.words x y (met none);
      on = both x.cpu n.cpu y.cpu (both x.cpu m.cpu n.cpu a.on b.on) d.on;
      words = (d.words.0 ∙ (b.words.0 ∙ a.words.0), d.words.1 ∙ (b.words.1 ∙ a.words.1));
    }
