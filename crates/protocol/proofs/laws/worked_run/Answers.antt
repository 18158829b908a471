-- `worked_run`: the rows, computed.
use Rattle.protocol.proofs.runs.Narrow.{frozen_link, collect_race, kept_driver, replace_race, replaced_under, try_race}
use Rattle.protocol.proofs.laws.worked_run.Goals as goal

pub returns-clause-frozen_link : goal.returns-clause-frozen_link
returns-clause-frozen_link c = frozen_link

pub returns-clause-collect_race : goal.returns-clause-collect_race
returns-clause-collect_race c = collect_race

pub returns-clause-try_race : goal.returns-clause-try_race
returns-clause-try_race c = try_race

pub returns-clause-replace_race : goal.returns-clause-replace_race
returns-clause-replace_race c = replace_race

pub returns-clause-replaced_under : goal.returns-clause-replaced_under
returns-clause-replaced_under c = replaced_under

pub returns-clause-kept_driver : goal.returns-clause-kept_driver
returns-clause-kept_driver c = kept_driver
