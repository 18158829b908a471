-- The list has room for the slot's entry.
use Rattle.std.proofs.Common.{◌<◌, length, subst, rules}
use Rattle.protocol.specs.Common.{IsIn}
use Rattle.name_registry.proofs.auditing.write_next.Goals as goal

pub offset_bounds-list-at : goal.offset_bounds-list-at
offset_bounds-list-at g c =
    let lt : c.args.at < length c.args.list.now = c.requires.room c.in-Live.entry (subst (IsIn c.in-Live.entry) c.slot.ensures c.in-Live.is) in
    search rules

pub bounds-list-at : goal.bounds-list-at
bounds-list-at g c = c.requires.room c.in-Live.entry (subst (IsIn c.in-Live.entry) c.slot.ensures c.in-Live.is)

pub overflow_add-result : goal.overflow_add-result
overflow_add-result g c =
    let lt : c.args.at < length c.args.list.now = c.requires.room c.in-Live.entry (subst (IsIn c.in-Live.entry) c.slot.ensures c.in-Live.is) in
    search rules

pub write_balance-requires-clause-fits : goal.write_balance-requires-clause-fits
write_balance-requires-clause-fits g c = c.requires.fits _ (c.requires.room c.in-Live.entry (subst (IsIn c.in-Live.entry) c.slot.ensures c.in-Live.is))
