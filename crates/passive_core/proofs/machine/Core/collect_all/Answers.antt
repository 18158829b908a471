use Rattle.std.proofs.Common.{◌≡◌, true, arith}
use borrow.Author.Count.{below_more}
use Rattle.protocol.specs.Common.{mark_at}
use Rattle.passive_core.specs.Common.{IsCollectionFor}
use Rattle.passive_core.proofs.Advancing.{gathers_more, gathers_none}
use Rattle.passive_core.proofs.Making.{only_after, only_none}
use Rattle.passive_core.proofs.machine.Core.collect_all.Goals as goal

pub loop-c-init : goal.loop-c-init
loop-c-init c = record {
  gathered = gathers_none c.args.self.now c.args.t;
  made = only_none (IsCollectionFor c.args.t) c.args.self.now;
  collected = λ d lt. absurd (omega (arith, lt));
}

pub loop-c-preserved : goal.loop-c-preserved
loop-c-preserved c =
    let s = c.args.self.now in
    let l = c.loop-c in
    let n = c.collect.new.self in
    record {
      gathered = gathers_more s l.self n c.args.t l.invariant.gathered c.collect.ensures.gathered;
      made = only_after (IsCollectionFor c.args.t) s l.self n l.invariant.made c.collect.ensures.made;
      collected = below_more (λ d. (mark_at n.marks c.args.t d).collected ≡ true) l.c
          (λ d lt. (c.collect.ensures.gathered.marks.here d).collected (l.invariant.collected d lt)) c.collect.ensures.collected;
    }
