-- What was found is an entry of the pass, and is remembered.
use Rattle.std.proofs.Common.{ap, subst}
use Rattle.cpu_words.specs.Common.{key_with}
use Rattle.passive_list.specs.Common.{Memory, OnCpu, RemembersAnswer}
use Rattle.passive_list.proofs.ByMemory.{seen_by}
use Rattle.passive_list.proofs.remembering.find_and_remember.Goals as goal

pub remember_on-requires : goal.remember_on-requires
remember_on-requires c =
    seen_by (key_with c.args.kind c.args.name) c.args.cpu.now _ _ c.find_seen-seen.ensures.found.seen c.find_seen-seen.ensures.words c.find_seen-seen.ensures.slot

pub returns-clause-found : goal.returns-clause-found
returns-clause-found c =
    let key = key_with c.args.kind c.args.name in
    let left = c.find_seen-seen.new.cpu.cpu in
    let same = ap (λ (o : OnCpu). o.memory) c.find_seen-seen.ensures.found.is in
    record {
      left = left;
      finds = c.find_seen-seen.ensures.found;
      is = c.remember_on.ensures.cpu;
      remembers = subst (λ (m : Memory). RemembersAnswer key m c.remember_on.new.cpu.cpu.memory c.find_seen-seen.result) same c.remember_on.ensures.remembers;
    }
