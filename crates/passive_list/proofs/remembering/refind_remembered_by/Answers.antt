-- What is remembered is found again, or isn't live.
use Rattle.cpu_words.specs.Common.{key_with}
use Rattle.passive_list.proofs.ByMemory.{not_refound_by, refound_by, seen_by_word}
use Rattle.passive_list.proofs.remembering.refind_remembered_by.Goals as goal

pub refind_seen-requires-clause-seen : goal.refind_seen-requires-clause-seen
refind_seen-requires-clause-seen c = (seen_by_word c.args.word c.args.name c.args.cpu.now c.in_ok-seen.seen c.kind_of.result c.kind_of.ensures c.in_ok-seen.ensures).2

pub returns-then-refind_seen-clause-found : goal.returns-then-refind_seen-clause-found
returns-then-refind_seen-clause-found c =
    refound_by c.args.word c.args.name c.args.cpu.now _ c.in_ok-seen.seen c.kind_of.result c.kind_of.ensures c.in_ok-seen.ensures c.if-refind_seen.ensures.found

pub returns-clause-found : goal.returns-clause-found
returns-clause-found c =
    not_refound_by c.args.word c.args.name c.args.cpu.now _ c.in_ok-seen.seen c.kind_of.result c.kind_of.ensures c.in_ok-seen.ensures c.if-refind_seen.ensures.found
