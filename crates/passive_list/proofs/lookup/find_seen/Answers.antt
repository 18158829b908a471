-- The data agree with the view as a lookup is over.
use Rattle.std.proofs.Common.{ap}
use Rattle.cpu_words.specs.Common.{key_with}
use Rattle.passive_list.specs.Common.{OnPlainCpu}
use Rattle.passive_list.proofs.Agreeing.{looked_up_agrees, own_agrees}
use Rattle.passive_list.proofs.Walking.{slot_seen, slots_seen}
use Rattle.passive_list.proofs.lookup.find_seen.Goals as goal

pub keep-requires : goal.keep-requires
keep-requires c = record { slot = slot_seen (key_with c.args.kind c.args.name) _ _ c.look_up-seen.result c.look_up-seen.ensures.change }

pub invariant_of-cpu : goal.invariant_of-cpu
invariant_of-cpu c =
    own_agrees _ _ _ _ _ _ _ _ _ _ _ (looked_up_agrees _ _ _ _ _ _ _ _ _ _ _ _ _ _ _ (key_with c.args.kind c.args.name) c.cpu.invariant c.look_up-seen.ensures.is_shown c.look_up-seen.ensures.table c.keep.ensures c.look_up-seen.ensures.change)

pub returns-clause-slot : goal.returns-clause-slot
returns-clause-slot c =
    slots_seen (key_with c.args.kind c.args.name) _ _ c.look_up-seen.result c.args.cpu.now.words.settings c.look_up-seen.ensures.change (ap (λ (o : OnPlainCpu). o.words.settings) c.cpu.view_is)
