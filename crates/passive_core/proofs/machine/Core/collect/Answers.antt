use Rattle.std.proofs.Common.{◌≡◌, inl, inr, refl, false, sym, ap, subst, ◌∙◌}
use Rattle.passive_core.specs.Types.{Mark, Collect, TotalAdd, Done}
use Rattle.protocol.specs.Common.{may_collect, narrow_step, Holds, mark_at}
use Rattle.passive_core.proofs.Advancing.{added, adds, collect_is, collected_there, collects, guard_some, left_by}
use Rattle.passive_core.specs.Common.{IsCollectionFor}
use Rattle.passive_core.proofs.Making.{only_after, only_none, only_one}
use Rattle.passive_core.proofs.machine.Core.collect.Goals as goal

pub make-requires-clause-allowed : goal.make-requires-clause-allowed
make-requires-clause-allowed c =
    let s = c.args.self.now in
    guard_some (may_collect s c.args.t c.args.c) _ _
    (collects s c.args.t c.args.c c.requires.rest c.requires.retired c.requires.passed c.requires.clear c.requires.cpu (ap (λ (m : Mark). m.collected) (sym c.mark_at.ensures) ∙ c.if-mark_at.false))

pub returns-clause-gathered : goal.returns-clause-gathered
returns-clause-gathered c =
    let s = c.args.self.now in
    let yet : (mark_at s.marks c.args.t c.args.c).collected ≡ false = ap (λ (m : Mark). m.collected) (sym c.mark_at.ensures) ∙ c.if-mark_at.false in
    let first = collect_is s c.make.new.self c.args.t c.args.c c.make.result c.requires.rest c.requires.retired c.requires.passed c.requires.clear c.requires.cpu yet c.make.ensures in
    added s c.make-2.new.self c.args.t c.args.c c.requires.rest
    (left_by (narrow_step c.make.new.self (TotalAdd c.args.t)) _ c.make-2.new.self Done c.make-2.result (adds s c.make.new.self c.args.t c.args.c first) c.make-2.ensures)

pub returns-clause-collected : goal.returns-clause-collected
returns-clause-collected c =
    let s = c.args.self.now in
    let on : Holds s = subst Holds c.self.view_is c.self.invariant in
    let yet : (mark_at s.marks c.args.t c.args.c).collected ≡ false = ap (λ (m : Mark). m.collected) (sym c.mark_at.ensures) ∙ c.if-mark_at.false in
    let first = collect_is s c.make.new.self c.args.t c.args.c c.make.result c.requires.rest c.requires.retired c.requires.passed c.requires.clear c.requires.cpu yet c.make.ensures in
    collected_there s c.make-2.new.self c.args.t c.args.c on c.requires.slot c.requires.cpu
    (left_by (narrow_step c.make.new.self (TotalAdd c.args.t)) _ c.make-2.new.self Done c.make-2.result (adds s c.make.new.self c.args.t c.args.c first) c.make-2.ensures)

pub returns-then-mark_at-clause-made : goal.returns-then-mark_at-clause-made
returns-then-mark_at-clause-made c = only_none (IsCollectionFor c.args.t) c.args.self.now

pub returns-clause-made : goal.returns-clause-made
returns-clause-made c = only_after (IsCollectionFor c.args.t) c.args.self.now c.make.new.self c.make-2.new.self
    (only_one (IsCollectionFor c.args.t) c.args.self.now c.make.new.self (Collect c.args.t c.args.c) c.make.result (inr (inl (c.args.c, refl))) c.make.ensures)
    (only_one (IsCollectionFor c.args.t) c.make.new.self c.make-2.new.self (TotalAdd c.args.t) c.make-2.result (inr (inr refl)) c.make-2.ensures)
