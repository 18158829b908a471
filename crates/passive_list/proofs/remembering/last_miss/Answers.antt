use Rattle.std.proofs.Common.{subst, sym}
use Rattle.cpu_words.specs.Common.{key_with}
use Rattle.passive_list.specs.Common.{IsTrueMiss, OnPlainCpu}
use Rattle.passive_list.proofs.Memories.{true_miss}
use Rattle.passive_list.proofs.remembering.last_miss.Goals as goal

pub returns-clause-so : goal.returns-clause-so
returns-clause-so c =
    let i = c.cpu.inside in
    subst (λ (o : OnPlainCpu). IsTrueMiss o.cpu.view.pass c.miss_of.result) c.cpu.view_is
    (subst (IsTrueMiss i.seat.view.pass) (sym c.miss_of.ensures) (true_miss i.seat.view.pass i.memory.missed (key_with c.args.kind c.args.name) c.cpu.invariant.memory.absent))
