-- `draft_of`: what it returns; that each turn of its loop keeps the invariants.
use Rattle.std.proofs.Common.{◌+◌, sym, ◌∙◌}
use Rattle.registry_language.proofs.Parsing.{draft_more, draft_fault, draft_all}
use Rattle.registry_language.proofs.script.draft_of.Goals as goal

pub loop-index-preserved : goal.loop-index-preserved
loop-index-preserved c =
    let said = c.in-Ok.ensures in
    let l = c.loop-index in
    rw said.2 (sym (draft_more (λ x. x.now) c.args.lines.now l.index _ (l.index + 1) l.draft said.0 c.loop-index-test.true said.1) ∙ l.invariant)

pub returns-in-Err-Cause : goal.returns-in-Err-Cause
returns-in-Err-Cause c =
    let l = c.loop-index in
    let e = rw c.in-Err-Cause.field-0-is at c.in-Err-Cause.ensures in
    rw c.in-Err-Cause.cause-is (sym l.invariant ∙ draft_fault (λ x. x.now) c.args.lines.now l.index _ (l.index + 1) l.draft c.in-Err-Cause.cause c.loop-index-test.true e)

pub returns : goal.returns
returns c = sym c.loop-index.invariant ∙ draft_all (λ x. x.now) c.args.lines.now c.loop-index.index (c.loop-index.index + 1) c.loop-index.draft c.loop-index-test.false
