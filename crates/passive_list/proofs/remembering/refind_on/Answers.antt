-- The data agree with the view, whether the entry is found again or not.
use Rattle.std.proofs.Common.{Some, refl, sym, ap, subst}
use Rattle.protocol.specs.Common.{IsAttached, entry_with}
use Rattle.cpu_words.specs.Common.{key_with}
use Rattle.passive_list.specs.Common.{OnPlainCpu}
use Rattle.passive_list.proofs.Agreeing.{noted_agrees, own_agrees, seen_agrees}
use Rattle.passive_list.proofs.ByMemory.{may_refind, not_refound_on, refound_on}
use Rattle.passive_list.proofs.remembering.refind_on.Goals as goal

pub refind-live-requires-clause-may : goal.refind-live-requires-clause-may
refind-live-requires-clause-may c = may_refind (key_with c.args.kind c.args.name) c.args.seen _ _ c.cpu.view_is c.requires.seen c.requires.inside c.cpu.invariant.idle.search refl

pub invariant_of-cpu : goal.invariant_of-cpu
invariant_of-cpu c =
    let e = entry_with (key_with c.args.kind c.args.name) c.args.seen.slot c.args.seen.number c.args.seen.value in
    let there = subst (λ (o : OnPlainCpu). IsAttached o.cpu.view.pass e) (sym c.cpu.view_is) c.requires.seen.attached in
    let had = (c.refind-live.ensures.found c.if-found.true).1 e there refl in
    own_agrees _ _ _ _ _ _ _ _ _ _ _ (seen_agrees _ _ _ _ _ _ _ _ _ _ _ (Some e) _ _ _ _ c.cpu.invariant c.refind-live.ensures.whole.0 c.refind-live.ensures.step.table had.longer had.is c.keep.ensures)

pub invariant_of-cpu-else-found : goal.invariant_of-cpu-else-found
invariant_of-cpu-else-found c =
    let had = (c.refind-live.ensures.other c.if-found.false).1.is in
    own_agrees _ _ _ _ _ _ _ _ _ _ _ (noted_agrees _ _ _ _ _ _ _ _ _ _ _ _ _ _ c.cpu.invariant c.refind-live.ensures.whole.0 c.refind-live.ensures.step.table had.0 had.1)

pub returns-then-found-clause-found : goal.returns-then-found-clause-found
returns-then-found-clause-found c =
    refound_on (key_with c.args.kind c.args.name) c.args.seen _ _ _ _ _ _ _ c.cpu.view_is c.requires.seen c.if-found.true (c.refind-live.ensures.found c.if-found.true).1 c.refind-live.ensures.whole c.cpu.invariant.id
    c.refind-live.ensures.step.log c.refind-live.ensures.step.known_log

pub returns-clause-found : goal.returns-clause-found
returns-clause-found c =
    not_refound_on c.args.seen _ _ _ _ _ _ _ (ap (λ (o : OnPlainCpu). o.cpu) c.cpu.view_is) c.if-found.false (c.refind-live.ensures.other c.if-found.false).1 c.refind-live.ensures.whole c.cpu.invariant.id
    c.refind-live.ensures.step.log c.refind-live.ensures.step.known_log
