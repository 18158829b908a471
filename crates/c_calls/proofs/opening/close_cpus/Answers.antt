-- Each handle is emptied.
use Rattle.std.proofs.Common.{◌≡◌, ◌≢◌, ap, ◌∙◌, arith}
use mathlib.Core.Logic.{dite}
use native.Mathlib.Decide.{ℕ_discrete}
use Rattle.c_calls.specs.Opening.{body_at}
use Rattle.c_calls.proofs.Handles.{body_set, count_bodies, others_stay}
use Rattle.c_calls.proofs.Opened.{all_empty}
use Rattle.c_calls.proofs.opening.close_cpus.Goals as goal

pub loop-c-preserved : goal.loop-c-preserved
loop-c-preserved c k lt =
    let hs = c.loop-c.cpus in
    let j = c.loop-c.c in
    let h = c.take_box.new.self in
    dite (ℕ_discrete k j)
    (λ (same : k ≡ j). ap (body_at _) same ∙ (body_set hs j h (omega (arith, c.loop-c-test.true, c.loop-c.auto.cpus)) ∙ c.take_box.ensures.empty))
    (λ (off : k ≢ j). others_stay hs j k h off ∙ c.loop-c.invariant k (omega (arith, lt, off)))

pub returns : goal.returns
returns c = all_empty _ c.loop-c.c (omega (arith, c.loop-c-test.false, c.loop-c.auto.cpus, count_bodies c.loop-c.cpus)) c.loop-c.invariant
