-- A wait that was left alone after its first turn.
use Rattle.std.proofs.Common.{◌∙◌}
use Rattle.c_callers.proofs.Waits.{both, same_cpu}
use Rattle.c_callers.proofs.waiting.leave_alone.Goals as goal

pub returns : goal.returns
returns c =
    let k = c.args.keeper.now in
    let x = c.args.cpu.now in
    let m = c.begin.new.cpu in
    let n = c.turn-first.new.cpu in
    let o = c.change.new.cpu in
    let p = c.wait_for-other.new.cpu in
    let a = c.begin.ensures in
    let b = c.turn-first.ensures in
    let d = c.change.ensures in
    let e = c.wait_for-other.ensures in
    let under = b.goes_on k.words x m a.words.0 a.begun (same_cpu m) in
    record { met = c.turn-last.ensures.done k.words x n (e.words.0 ∙ (d.words.0 ∙ (b.words.0 ∙ a.words.0))) under (both n.cpu o.cpu p.cpu d.on e.on) }
