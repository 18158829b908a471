use Rattle.std.proofs.Common.{sym, ap, arith, false, not, slice_index_or}
use Rattle.registry_values.proofs.Slots.{least_is, none_below}
use Rattle.registry_values.proofs.mark.first_unseen.Goals as goal

pub returns-then-not-seen-c : goal.returns-then-not-seen-c
returns-then-not-seen-c c =
    sym (least_is (λ d. not (slice_index_or c.args.seen.now d false)) c.loop-c.c c.args.cpus c.loop-c-test.true (ap not c.if-not-seen-c.true) (λ d lt. ap not (c.loop-c.invariant d lt)))

pub returns : goal.returns
returns c = sym (none_below (λ d. not (slice_index_or c.args.seen.now d false)) c.args.cpus (λ d lt. ap not (c.loop-c.invariant d (omega (arith, lt, c.loop-c-test.false)))))
