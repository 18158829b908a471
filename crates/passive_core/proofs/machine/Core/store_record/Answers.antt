use Rattle.std.proofs.Common.{◌≡◌, true, sym, ◌∙◌, nat_lt, lt-ltb}
use Rattle.passive_core.specs.Types.{StoreSlot}
use Rattle.passive_core.proofs.Entering.{step_left}
use Rattle.passive_core.proofs.machine.Core.store_record.Goals as goal

pub invariant_of-self : goal.invariant_of-self
invariant_of-self c =
    let few : nat_lt c.args.k 5 ≡ true = lt-ltb c.args.k 5 c.requires in
    step_left (StoreSlot c.args.t c.args.k c.args.v) c.self.view_is c.self.invariant
    (rw (sym c.may_write.ensures.value ∙ c.if-not-may_write.false, few, c.with_word.ensures, c.row_at-row.ensures, ← c.self.view_is))
