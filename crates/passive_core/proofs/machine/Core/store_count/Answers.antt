use Rattle.std.proofs.Common.{◌≡◌, ◌-◌, ◌<◌, length, [], true, false, sym, ◌∙◌, arith, rules, nat_lt}
use Rattle.std.proofs.lemmas.List.{get_or_read}
use Rattle.passive_core.specs.Types.{StoreSlot}
use Rattle.passive_core.proofs.Entering.{step_left}
use Rattle.passive_core.proofs.machine.Core.store_count.Goals as goal
use Rattle.std.proofs.lemmas.Bool.{lt-ltb, le-ltb}

pub invariant_of-self : goal.invariant_of-self
invariant_of-self c =
    let cpu : nat_lt (c.args.k - 5) c.self.inside.settings.cpus ≡ true = lt-ltb (c.args.k - 5) c.self.inside.settings.cpus (omega (arith, c.if-k-self.false)) in
    let many : nat_lt c.args.k 5 ≡ false = le-ltb c.args.k 5 c.requires in
    let low : c.args.t < length c.self.inside.counts.items = search rules in
    let row = get_or_read c.self.inside.counts.items c.args.t c.index_mut.result.now low c.index_mut.ensures.value [] in
    step_left (StoreSlot c.args.t c.args.k c.args.v) c.self.view_is c.self.invariant (rw (many, sym c.may_write.ensures.value ∙ c.if-not-may_write.false, row, ← c.self.view_is, cpu))
