-- The kind's word is that kind's.
use Rattle.std.proofs.Common.{Option}
use Rattle.passive_list.specs.Types.{Kind}
use Rattle.cpu_words.specs.Common.{key_with}
use Rattle.passive_list.specs.Common.{HasRecalledByMemory, Seen}
use Rattle.passive_list.proofs.Memories.{kind_is_some, of_word}
use Rattle.passive_list.proofs.remembering.recall_remembered.Goals as goal

pub recall_remembered_by-requires-clause-some : goal.recall_remembered_by-requires-clause-some
recall_remembered_by-requires-clause-some c = kind_is_some c.args.kind c.kind_word.result c.args.name c.kind_word.ensures

pub returns-clause-found : goal.returns-clause-found
returns-clause-found c =
    let by = c.recall_remembered_by in
    of_word (λ (k : Kind) (s : Option Seen). HasRecalledByMemory (key_with k c.args.name) c.args.cpu.now.cpu by.new.cpu.cpu s) c.args.kind c.kind_word.result by.result c.kind_word.ensures by.ensures.found
