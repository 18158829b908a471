use Rattle.cpu_words.proofs.logs.Known.{own_with_note}
use Rattle.cpu_words.proofs.steps.notes.hear_keeper.Goals as goal

pub returns-clause-own_log : goal.returns-clause-own_log
returns-clause-own_log c = own_with_note c.args.keeper.now.log _ c.args.note.known_log _ c.args.keeper.now.view _ _ c.lay_by_keeper.ensures.change c.lay_by_keeper.ensures.log
    c.lay_by_keeper.ensures.known_log.0 c.hear_noted.ensures.own_log
