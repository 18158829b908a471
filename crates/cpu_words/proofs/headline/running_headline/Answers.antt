use Rattle.cpu_words.proofs.laws.Safety.{held_have_slots}
use Rattle.cpu_words.proofs.laws.Waiting.{waiting_ends}
use Rattle.cpu_words.proofs.laws.Freed.{freed_by_keeper, freed_is_gone, attached_keeps}
use Rattle.cpu_words.proofs.laws.Called.{cpu_hears_later, ends_open_sections}
use Rattle.cpu_words.proofs.laws.Balance.{seats_balance}
use Rattle.cpu_words.proofs.headline.running_headline.Goals as goal

pub returns-clause-held : goal.returns-clause-held
returns-clause-held c = held_have_slots

pub returns-clause-waiting : goal.returns-clause-waiting
returns-clause-waiting c = waiting_ends

pub returns-clause-freed : goal.returns-clause-freed
returns-clause-freed c = freed_is_gone

pub returns-clause-kept : goal.returns-clause-kept
returns-clause-kept c = attached_keeps

pub returns-clause-balance : goal.returns-clause-balance
returns-clause-balance c = seats_balance

pub returns-clause-freed_by : goal.returns-clause-freed_by
returns-clause-freed_by c = freed_by_keeper

pub returns-clause-heard : goal.returns-clause-heard
returns-clause-heard c = cpu_hears_later

pub returns-clause-ended : goal.returns-clause-ended
returns-clause-ended c = ends_open_sections
