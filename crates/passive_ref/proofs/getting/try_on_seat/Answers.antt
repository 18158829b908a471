-- The steps on the words, one after the other.
use Rattle.passive_ref.proofs.Gets.{ends_in_vain, ends_well, taken_as, vain}
use Rattle.passive_ref.proofs.getting.try_on_seat.Goals as goal

pub returns-then-live-number-clause-tried : goal.returns-then-live-number-clause-tried
returns-then-live-number-clause-tried c =
    let confirmed = (c.end_try-live.ensures.confirmed c.if-live-number.true).1 in (
      taken_as _ _ _ _ _ c.requires.may c.begin_try.ensures.change confirmed,
      ends_well _ c.args.row.cpu _ _ _ c.begin_try.result _ _ _ c.requires.cpu.1 c.if-live-number.true c.begin_try.ensures.step.log c.end_try-live.ensures.step.log,
    )

pub returns-clause-tried : goal.returns-clause-tried
returns-clause-tried c =
    let late = (c.end_try-live.ensures.late c.if-live-number.false).1 in (
      vain _ _ _ _ _ _ c.requires.may c.begin_try.ensures.change late c.take_back.ensures.change,
      ends_in_vain _ c.args.row.cpu _ _ _ c.begin_try.result c.take_back.result _ _ _ _ c.requires.cpu.1 c.if-live-number.false c.begin_try.ensures.step.log c.end_try-live.ensures.step.log c.take_back.ensures.step.log,
    )
