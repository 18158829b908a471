use Rattle.std.proofs.Common.{refl}
use Rattle.passive_core.proofs.machine.Core.opening.Goals as goal
use Rattle.protocol.proofs.keeps.Keeping.{opening_holds}

pub invariant_of-result : goal.invariant_of-result
invariant_of-result c = rw (
  c.in_ok-repeated.ensures,
  c.in_ok-repeated-2.ensures,
  c.in_ok-repeated-3.ensures,
  c.in_ok-repeated-4.ensures,
  c.in_ok-repeated-5.ensures,
  c.in_ok-repeated-6.ensures,
  c.in_ok-repeated-7.ensures,
  c.in_ok-repeated-8.ensures,
  c.in_ok-repeated-9.ensures,
  c.in_ok-repeated-10.ensures,
  c.in_ok-repeated-11.ensures,
  c.in_ok-repeated-12.ensures,
  c.in_ok-repeated-13.ensures,
  c.in_ok-repeated-14.ensures,
  c.in_ok-repeated-15.ensures,
  c.in_ok-repeated-16.ensures,
  c.in_ok-repeated-17.ensures,
  c.new.ensures.items,
  c.new-2.ensures.items,
) (opening_holds c.args.settings c.requires)

pub returns-clause-value : goal.returns-clause-value
returns-clause-value c = rw (
  c.in_ok-repeated.ensures,
  c.in_ok-repeated-2.ensures,
  c.in_ok-repeated-3.ensures,
  c.in_ok-repeated-4.ensures,
  c.in_ok-repeated-5.ensures,
  c.in_ok-repeated-6.ensures,
  c.in_ok-repeated-7.ensures,
  c.in_ok-repeated-8.ensures,
  c.in_ok-repeated-9.ensures,
) (rw (
  c.in_ok-repeated-10.ensures,
  c.in_ok-repeated-11.ensures,
  c.in_ok-repeated-12.ensures,
  c.in_ok-repeated-13.ensures,
  c.in_ok-repeated-14.ensures,
  c.in_ok-repeated-15.ensures,
  c.in_ok-repeated-16.ensures,
  c.in_ok-repeated-17.ensures,
  c.new.ensures.items,
  c.new-2.ensures.items,
) refl)
