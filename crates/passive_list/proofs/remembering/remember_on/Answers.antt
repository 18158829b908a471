-- The memory is of entries of the pass still, and says the answer.
use Rattle.std.proofs.Common.{◌≡◌, Option, Some, None, IfSome, ap, subst, sym}
use Rattle.cpu_words.specs.Common.{key_with}
use Rattle.passive_list.specs.Common.{Memory, HasSeen, IsOurCpu, OnPlainCpu, RemembersAnswer, Seen}
use Rattle.passive_list.proofs.Agreeing.{memory_agrees}
use Rattle.passive_list.proofs.Memories.{forgotten_stays, keeps_others, none_recalled, others_kept, recalls_seen, remembers_more}
use Rattle.passive_list.proofs.remembering.remember_on.Goals as goal

pub invariant_of-cpu : goal.invariant_of-cpu
invariant_of-cpu c =
    let key = key_with c.args.kind c.args.name in
    let s = c.in-Some.seen in
    let seen : HasSeen c.args.cpu.now key s = subst (λ (o : Option Seen). IfSome o (λ (r : Seen). HasSeen c.args.cpu.now key r)) c.in-Some.is c.requires in
    let here = subst (λ (o : OnPlainCpu). HasSeen o key s) (sym c.cpu.view_is) seen in
    let i = c.cpu.inside in
    subst (λ (m : Memory). IsOurCpu i.seat.table i.seat.view.settings i.seat.table i.seat.view i.row i.ended i.depth i.found i.passive.items i.net.items m) (sym c.remember.ensures)
    (memory_agrees _ _ _ _ _ _ _ _ _ _ _ _ c.cpu.invariant (remembers_more _ _ _ key s c.cpu.invariant.memory here.slots here.attached))

pub invariant_of-cpu-in-None : goal.invariant_of-cpu-in-None
invariant_of-cpu-in-None c =
    memory_agrees _ _ _ _ _ _ _ _ _ _ _ _ c.cpu.invariant (forgotten_stays _ _ _ _ (key_with c.args.kind c.args.name) c.forget.ensures c.cpu.invariant.memory)

pub returns-in-Some-clause-remembers : goal.returns-in-Some-clause-remembers
returns-in-Some-clause-remembers c =
    let key = key_with c.args.kind c.args.name in
    let s = c.in-Some.seen in
    let m = c.cpu.inside.memory in
    let seen : HasSeen c.args.cpu.now key s = subst (λ (o : Option Seen). IfSome o (λ (r : Seen). HasSeen c.args.cpu.now key r)) c.in-Some.is c.requires in
    let here = subst (λ (o : OnPlainCpu). HasSeen o key s) (sym c.cpu.view_is) seen in
    let was : m ≡ c.args.cpu.now.cpu.memory = ap (λ (o : OnPlainCpu). o.cpu.memory) c.cpu.view_is in
    subst (λ (o : Option Seen). RemembersAnswer key c.args.cpu.now.cpu.memory c.remember.new.self o) (sym c.in-Some.is)
    (subst (λ (n : Memory). RemembersAnswer key n c.remember.new.self (Some s)) was
    (subst (λ (n : Memory). RemembersAnswer key m n (Some s)) (sym c.remember.ensures)
    (recalls_seen _ _ m key s c.cpu.invariant.memory here.slots, keeps_others m key s)))

pub returns-in-None-clause-remembers : goal.returns-in-None-clause-remembers
returns-in-None-clause-remembers c =
    let key = key_with c.args.kind c.args.name in
    let m = c.cpu.inside.memory in
    let was : m ≡ c.args.cpu.now.cpu.memory = ap (λ (o : OnPlainCpu). o.cpu.memory) c.cpu.view_is in
    subst (λ (o : Option Seen). RemembersAnswer key c.args.cpu.now.cpu.memory c.forget.new.self o) (sym c.in-None.is)
    (subst (λ (n : Memory). RemembersAnswer key n c.forget.new.self None) was (none_recalled m c.forget.new.self key c.forget.ensures, others_kept m c.forget.new.self key c.forget.ensures))
