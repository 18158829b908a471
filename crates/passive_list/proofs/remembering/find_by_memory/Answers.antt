-- What the load told is the answer; else what was found anew.
use Rattle.cpu_words.specs.Common.{key_with}
use Rattle.passive_list.proofs.ByMemory.{anew_after, by_load}
use Rattle.passive_list.proofs.remembering.find_by_memory.Goals as goal

pub returns-in-Some-clause-found : goal.returns-in-Some-clause-found
returns-in-Some-clause-found c = (by_load (key_with c.args.kind c.args.name) _ _ c.in-Some.seen c.in-Some.ensures.found).0

pub returns-in-Some-clause-stays : goal.returns-in-Some-clause-stays
returns-in-Some-clause-stays c = (by_load (key_with c.args.kind c.args.name) _ _ c.in-Some.seen c.in-Some.ensures.found).1

pub returns-clause-found : goal.returns-clause-found
returns-clause-found c = (anew_after (key_with c.args.kind c.args.name) _ _ _ _ c.in_default.ensures.found c.find_anew.ensures.found c.requires.outside).0

pub returns-clause-stays : goal.returns-clause-stays
returns-clause-stays c = (anew_after (key_with c.args.kind c.args.name) _ _ _ _ c.in_default.ensures.found c.find_anew.ensures.found c.requires.outside).1

pub returns-in-Some-clause-kept : goal.returns-in-Some-clause-kept
returns-in-Some-clause-kept c = (by_load (key_with c.args.kind c.args.name) _ _ c.in-Some.seen c.in-Some.ensures.found).2

pub returns-clause-kept : goal.returns-clause-kept
returns-clause-kept c = (anew_after (key_with c.args.kind c.args.name) _ _ _ _ c.in_default.ensures.found c.find_anew.ensures.found c.requires.outside).2
