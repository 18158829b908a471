-- A wait, where another CPU tries a turn.
use Rattle.std.proofs.Common.{◌∙◌, subst, sym, arith}
use Rattle.c_handles.specs.declared.values.wait.CWait.{CWait}
use Rattle.c_calls.specs.Turns.{IsUnderWay}
use Rattle.c_callers.proofs.Waits.{same_cpu}
use Rattle.c_callers.proofs.waiting.other_turns.Goals as goal

pub returns : goal.returns
returns c =
    let k = c.args.keeper.now in
    let x = c.args.cpu.now in
    let m = c.begin.new.cpu in
    let n = c.turn-first.new.cpu in
    let a = c.begin.ensures in
    let b = c.turn-first.ensures in
    let its = b.its ∙ a.its in
    let refused = c.turn-refused.ensures.other (λ none. omega (arith, its, none)) (λ same. c.requires.differ (omega (arith, its, same))) in
    let under = b.goes_on k.words x m a.words.0 a.begun (same_cpu m) in
    let still = subst (λ (w : CWait). IsUnderWay k.words x n w) (sym refused.3) under in
    record {
      refused = refused.0;
      unchanged = refused.2;
      met = c.turn-last.ensures.done k.words x n (c.turn-refused.ensures.words.0 ∙ (b.words.0 ∙ a.words.0)) still (same_cpu n);
    }
