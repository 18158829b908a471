-- The miss is true of the pass.
use Rattle.std.proofs.Common.{subst, sym}
use Rattle.cpu_words.specs.Common.{key_with}
use Rattle.passive_list.specs.Common.{Memory, IsOurCpu, OnPlainCpu, WasAbsent}
use Rattle.passive_list.proofs.Agreeing.{memory_agrees}
use Rattle.passive_list.proofs.Memories.{misses_more}
use Rattle.passive_list.proofs.remembering.miss_on.Goals as goal

pub invariant_of-cpu : goal.invariant_of-cpu
invariant_of-cpu c =
    let key = key_with c.args.kind c.args.name in
    let was = subst (λ (o : OnPlainCpu). WasAbsent o.cpu.view.pass key c.args.number) (sym c.cpu.view_is) c.requires in
    let i = c.cpu.inside in
    subst (λ (m : Memory). IsOurCpu i.seat.table i.seat.view.settings i.seat.table i.seat.view i.row i.ended i.depth i.found i.passive.items i.net.items m) (sym c.miss.ensures)
    (memory_agrees _ _ _ _ _ _ _ _ _ _ _ _ c.cpu.invariant (misses_more _ _ _ key _ c.cpu.invariant.memory was))
