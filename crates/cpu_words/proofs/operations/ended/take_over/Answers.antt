use Rattle.std.proofs.Common.{rules, arith, ap, ◌∙◌, sym}
use Rattle.cpu_words.specs.Common.{logged_cpu}
use Rattle.cpu_words.proofs.seats.Ending.{takes_over, going_cpu}
use Rattle.cpu_words.proofs.operations.ended.take_over.Goals as goal

pub join_seat-requires : goal.join_seat-requires
join_seat-requires g c = (
  search rules,
  search rules,
  search rules,
  let w = c.words.invariant.1 in omega arith,
  takes_over _ _ _ _ c.cpu.inside.token.me.0 g.S.EndingSeat.seat (c.requires.seat ∙ (ap logged_cpu (sym c.cpu.view_is) ∙ sym (going_cpu c.cpu.inside.token.me c.cpu.invariant))),
)
