-- `join_all`: that each turn of its loop keeps the invariants.
use Rattle.std.proofs.Common.{rules, arith, ◌≡◌, ◌+◌, ◌*◌, ℕ, ap, ◌∙◌}
use Rattle.std.specs.Vec.Iter.{into_iter_len}
use Rattle.registry_storm.proofs.workers.join_all.Goals as goal

-- one more worker was joined
one_joined : (p s d n m a : ℕ) → d ≡ p → m ≡ n + 1 → s + p * m ≡ a → s + d + p * n ≡ a
one_joined p s d n m a same next was = let long : p * (n + 1) ≡ p * n + p = grind arith in let had : p * m ≡ p * (n + 1) = ap (λ k. p * k) next in omega (arith, long, had, same, was)

pub loop-worker-preserved : goal.loop-worker-preserved
loop-worker-preserved g c =
    let was = c.loop-worker.invariant in let step = c.in-Some.ensures.steps in
    let here : c.in-Some.worker.promise.0 ≡ c.args.turns.0 = let h = was.0 0 c.in-Some.worker in grind rules in
    let one : into_iter_len c.loop-worker.worker-iterator ≡ into_iter_len c.next.new.self + 1 = search rules in
    let joined = one_joined (2 * c.args.turns.0) c.loop-worker.counts.lookups c.join.result.counts.lookups (into_iter_len c.next.new.self) (into_iter_len c.loop-worker.worker-iterator) _
    (c.join.ensures ∙ ap (λ x. 2 * x) here) one was.2 in (
      (λ k d below. let h = was.0 (k + 1) d in grind rules),
      omega (arith, one, was.1),
      omega (arith, joined, c.add.ensures),
    )
