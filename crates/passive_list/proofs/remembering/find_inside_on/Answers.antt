-- What a find in the open section promises of what was there before it began follows from what it does.
use Rattle.std.proofs.Common.{Some, refl}
use Rattle.cpu_words.specs.Common.{key_with}
use Rattle.passive_list.proofs.ByMemory.{inside_after, inside_kept, inside_stays}
use Rattle.passive_list.proofs.remembering.find_inside_on.Goals as goal

pub returns-in-Some-clause-stays : goal.returns-in-Some-clause-stays
returns-in-Some-clause-stays c = inside_stays (key_with c.args.kind c.args.name) _ _ (Some c.in-Some.seen) c.in-Some.ensures.found

pub returns-in-Some-clause-kept : goal.returns-in-Some-clause-kept
returns-in-Some-clause-kept c = inside_kept (key_with c.args.kind c.args.name) _ _ (Some c.in-Some.seen) c.in-Some.ensures.found

pub returns-clause-found : goal.returns-clause-found
returns-clause-found c = inside_after (key_with c.args.kind c.args.name) _ _ _ _ (c.in_default.ensures.missed refl) c.find_and_remember.ensures.found

pub returns-clause-stays : goal.returns-clause-stays
returns-clause-stays c =
    inside_stays (key_with c.args.kind c.args.name) _ _ _ (inside_after (key_with c.args.kind c.args.name) _ _ _ _ (c.in_default.ensures.missed refl) c.find_and_remember.ensures.found)

pub returns-clause-kept : goal.returns-clause-kept
returns-clause-kept c =
    inside_kept (key_with c.args.kind c.args.name) _ _ _ (inside_after (key_with c.args.kind c.args.name) _ _ _ _ (c.in_default.ensures.missed refl) c.find_and_remember.ensures.found)
