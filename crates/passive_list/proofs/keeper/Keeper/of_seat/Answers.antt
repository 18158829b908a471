use Rattle.std.proofs.Common.{List, sym, ap, subst, arith, length}
use Rattle.passive_list.specs.Types.{KeeperView, Mark}
use Rattle.cpu_words.specs.Common.{IsShown, keeper_with}
use Rattle.cpu_words.proofs.seats.Seating.{seated_is_shown}
use Rattle.passive_list.specs.Common.{KeptSlot, IsAtRest, MarksAgree, RowsAgree}
use Rattle.passive_list.proofs.Marks.{new_marks}
use Rattle.passive_list.proofs.Rows.{new_at_rest, new_rows}
use Rattle.passive_list.proofs.keeper.Keeper.of_seat.Goals as goal

pub invariant_of-result : goal.invariant_of-result
invariant_of-result c =
    let a = c.args.settings in (
      record {
        view = subst (IsAtRest a) (sym c.requires.new) (new_at_rest a c.requires.fit);
        is_shown = subst IsShown (sym c.requires.new) (seated_is_shown a c.requires.fit a.cpus (omega arith));
        changes = sym (ap (λ (k : KeeperView). length k.history) c.requires.new);
        rows = subst (λ (k : KeeperView). RowsAgree a k c.args.rows.slots.items) (sym c.requires.new)
            (subst (λ (rows : List KeptSlot). RowsAgree a (keeper_with a a.cpus) rows) (sym c.requires.rows.slots) (new_rows a));
      },
      subst (λ (k : KeeperView). MarksAgree a k c.args.rows.marks.items) (sym c.requires.new)
          (subst (λ (ms : List Mark). MarksAgree a (keeper_with a a.cpus) ms) (sym c.requires.rows.marks) (new_marks a)),
    )
