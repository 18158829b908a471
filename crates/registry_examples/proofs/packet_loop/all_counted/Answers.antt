use Rattle.std.proofs.Common.{arith, length, length-append, append_assoc, ap, sym, ◌∙◌, ◌++◌, ◌∷◌, []}
use Rattle.registry_examples.specs.{answered_by, answered_in, counted_in}
use Rattle.registry_examples.proofs.Accounted.{counted_more}
use Rattle.registry_examples.proofs.Searched.{answered_append, back_append}
use Rattle.registry_examples.proofs.packet_loop.all_counted.Goals as goal

pub loop-one-preserved : goal.loop-one-preserved
loop-one-preserved g c = (
  c.loop-one.invariant.0 ∙ ap (λ xs. c.loop-one.yielded ++ xs) c.in-Some.ensures.steps.0 ∙ sym (append_assoc c.loop-one.yielded (c.in-Some.one ∷ []) _),
  omega (arith, ap length c.in-Ok.ensures.items, length-append c.loop-one.cpus.items (c.in_ok-tally.cpu ∷ []), length-append c.loop-one.yielded (c.in-Some.one ∷ []), c.loop-one.invariant.1),
  counted_more c.loop-one.cpus.items c.push.new.self.items c.in_ok-tally.cpu c.in_ok-tally.tally c.loop-one.yielded c.in-Some.one c.in-Ok.ensures.items c.in_ok-tally.was c.loop-one.invariant.2,
  omega (arith, c.saturating_add-counted.ensures, c.total.ensures, c.loop-one.invariant.3, (back_append c.loop-one.yielded (c.in_ok-tally.tally, c.in_ok-tally.cpu)).1, ap (λ r. counted_in (c.loop-one.yielded ++ r ∷ [])) c.in_ok-tally.was),
  omega (
    arith,
    ap answered_by c.in-Ok.ensures.items,
    answered_append c.loop-one.cpus.items c.in_ok-tally.cpu,
    c.loop-one.invariant.4,
    (back_append c.loop-one.yielded (c.in_ok-tally.tally, c.in_ok-tally.cpu)).0,
    ap (λ r. answered_in (c.loop-one.yielded ++ r ∷ [])) c.in_ok-tally.was,
  ),
)
