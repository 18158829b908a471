-- A turn was made.
use Rattle.c_callers.proofs.Waits.{goes_on, is_done, keeps, other_refused}
use Rattle.c_callers.proofs.waiting.turn.Goals as goal

pub returns : goal.returns
returns c =
    let made = c.turn in
    let k = c.args.keeper.now in
    let x = c.args.cpu.now in
    let w = c.args.wait.now in
    let kept = keeps k made.new.keeper x made.new.cpu made.result w made.new.wait made.ensures in
    record {
      goes_on = λ words first m ours is on. goes_on words first m k made.new.keeper x made.new.cpu made.result w made.new.wait ours is on made.ensures;
      done = λ words first m ours is on none. is_done words first m k made.new.keeper x made.new.cpu made.result w made.new.wait ours is on made.ensures none;
      other = other_refused k made.new.keeper x made.new.cpu made.result w made.new.wait made.ensures;
      its = kept.its;
      on = kept.on;
      words = kept.words;
    }
