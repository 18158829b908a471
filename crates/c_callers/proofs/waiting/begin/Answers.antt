-- A wait was begun.
use Rattle.c_callers.proofs.Waits.{began}
use Rattle.c_callers.proofs.waiting.begin.Goals as goal

pub returns : goal.returns
returns c =
    let made = c.begin_wait-done in
    let is = began c.args.keeper.now made.new.keeper c.args.cpu.now made.new.cpu made.result c.args.wait.now made.new.wait c.requires.outside made.ensures in
    record { begun = is.under; its = is.its; on = is.on; words = (made.ensures.outside c.requires.outside).1.words }
