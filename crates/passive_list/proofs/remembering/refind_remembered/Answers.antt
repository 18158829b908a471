-- The kind's word is that kind's.
use Rattle.std.proofs.Common.{Option}
use Rattle.passive_list.specs.Types.{Kind}
use Rattle.cpu_words.specs.Common.{key_with}
use Rattle.passive_list.specs.Common.{Refinds, Seen}
use Rattle.passive_list.proofs.ByMemory.{refinds_some}
use Rattle.passive_list.proofs.Memories.{kind_is_some, of_word}
use Rattle.passive_list.proofs.remembering.refind_remembered.Goals as goal

pub refind_remembered_by-requires-clause-some : goal.refind_remembered_by-requires-clause-some
refind_remembered_by-requires-clause-some c = kind_is_some c.args.kind c.kind_word.result c.args.name c.kind_word.ensures

pub returns-clause-found : goal.returns-clause-found
returns-clause-found c =
    let by = c.refind_remembered_by in
    let key = key_with c.args.kind c.args.name in
    (refinds_some key _ _ by.result (of_word (λ (k : Kind) (s : Option Seen). Refinds (key_with k c.args.name) c.args.cpu.now.cpu by.new.cpu.cpu s) c.args.kind c.kind_word.result by.result c.kind_word.ensures by.ensures.found)).0

pub returns-clause-missed : goal.returns-clause-missed
returns-clause-missed c =
    let by = c.refind_remembered_by in
    let key = key_with c.args.kind c.args.name in
    (refinds_some key _ _ by.result (of_word (λ (k : Kind) (s : Option Seen). Refinds (key_with k c.args.name) c.args.cpu.now.cpu by.new.cpu.cpu s) c.args.kind c.kind_word.result by.result c.kind_word.ensures by.ensures.found)).1
