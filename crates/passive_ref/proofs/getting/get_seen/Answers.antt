-- The entry is the one that the CPU had seen.
use Rattle.std.proofs.Common.{refl, sym, subst}
use Rattle.protocol.specs.Common.{entry_with}
use Rattle.cpu_words.specs.Common.{key_with}
use Rattle.passive_list.specs.Common.{HasSeen as HasSeenOf, OnPlainCpu}
use Rattle.passive_ref.specs.{HasSeen}
use Rattle.passive_ref.proofs.Gets.{got_answer}
use Rattle.passive_ref.proofs.getting.get_seen.Goals as goal

pub get_on-requires-clause-seen : goal.get_on-requires-clause-seen
get_on-requires-clause-seen c =
    let s = c.args.seen in
    let key = key_with c.args.kind c.args.name in
    let seen = subst (λ (o : OnPlainCpu). HasSeenOf o key s) (sym c.cpu.view_is) c.requires.seen in
    subst (λ (o : OnPlainCpu). HasSeen o.cpu.view s.slot s.number) c.cpu.view_is
    (record { entry = entry_with key s.slot s.number s.value; at = record { slot = refl; number = refl }; attached = seen.attached; slots = seen.slots })

pub returns-clause-answered : goal.returns-clause-answered
returns-clause-answered c = got_answer (key_with c.args.kind c.args.name) c.args.seen c.args.cpu.now _ c.get_on.result c.requires.seen c.get_on.ensures.got
