-- The kind's word is that kind's.
use Rattle.passive_list.specs.Common.{RemembersSo}
use Rattle.passive_list.proofs.Memories.{kind_is_some, of_word}
use Rattle.passive_list.proofs.remembering.remembered.Goals as goal

pub remembered_by-requires : goal.remembered_by-requires
remembered_by-requires c = kind_is_some c.args.kind c.kind_word.result c.args.name c.kind_word.ensures

pub returns-clause-recalled : goal.returns-clause-recalled
returns-clause-recalled c = (of_word (RemembersSo c.args.cpu.now c.args.name) c.args.kind c.kind_word.result c.remembered_by.result c.kind_word.ensures c.remembered_by.ensures).0

pub returns-clause-seen : goal.returns-clause-seen
returns-clause-seen c = (of_word (RemembersSo c.args.cpu.now c.args.name) c.args.kind c.kind_word.result c.remembered_by.result c.kind_word.ensures c.remembered_by.ensures).1
