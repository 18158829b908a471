-- `scope`: what it returns.
use Rattle.std.proofs.Common.{arith, ◌≡◌, ◌+◌, ◌*◌, ℕ, ap, vec_len}
use Rattle.registry_storm.proofs.workers.fn.work_all.scope.Goals as goal

-- one CPU's lookups, and those of the n others
all_joined : (p n k s : ℕ) → n + 1 ≡ k → s ≡ p + p * n → s ≡ p * k
all_joined p n k s all was = let long : p * (n + 1) ≡ p * n + p = grind arith in let had : p * (n + 1) ≡ p * k = ap (λ m. p * m) all in omega (arith, long, had, was)

pub returns : goal.returns
returns g c =
    let started = c.loop-cpu.invariant.0 in
    let all : vec_len c.loop-cpu.started + 1 ≡ c.captures.shared.now.plan.cpus =
    let others = c.requires.others in let end = c.loop-cpu-test.false in let most = c.loop-cpu.auto.cpu-index-end in omega (arith, started, others, end, most) in
    record { ok = all_joined (2 * c.captures.shared.now.plan.turns) (vec_len c.loop-cpu.started) _ _ all c.join_all.ensures; err = tt }
