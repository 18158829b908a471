-- What the CPU keeps over an attach and a detach.
use Rattle.std.proofs.Common.{subst}
use Rattle.passive_list.specs.Common.{OnPlainCpu}
use Rattle.c_callers.specs.{IsOn}
use Rattle.c_callers.proofs.Waits.{attached_on, both, detached_on}
use Rattle.c_callers.proofs.waiting.change.Goals as goal

pub returns-clause-on : goal.returns-clause-on
returns-clause-on c =
    let x = c.args.cpu.now in
    let m = c.attach_in.new.cpu in
    let y = c.detach_in.new.cpu in
    let made = attached_on c.keeper.inside.keeper c.attach_in.new.keeper c.cpu.inside.cpu m c.attach_in.result c.attach_in.ensures.ok c.attach_in.ensures.refused in
    let first = subst (λ (o : OnPlainCpu). IsOn o.cpu m.cpu) c.cpu.view_is made in
    let second = detached_on c.attach_in.new.keeper c.detach_in.new.keeper m y c.detach_in.result c.detach_in.ensures.ok c.detach_in.ensures.refused in
    both x.cpu m.cpu y.cpu first second
