-- Whether all CPUs are outside.
use Rattle.std.proofs.Common.{◌≡◌, ◌<◌, below_more, List, length, Option, sym, ap, ◌∙◌, arith, false, get_or}
use Rattle.std.proofs.lemmas.Bool.{false≢true}
use Rattle.passive_list.specs.Common.{OnPlainCpu}
use Rattle.c_calls.specs.Opening.{bodies_of, body_at, is_inside_of}
use Rattle.c_calls.proofs.Handles.{body_is, count_bodies, same_bodies}
use Rattle.c_calls.proofs.Opened.{all_outside}
use Rattle.c_calls.proofs.opening.are_outside.Goals as goal

pub returns-then-is_inside : goal.returns-then-is_inside
returns-then-is_inside c =
    let i = c.loop-c.invariant in
    let hs = c.loop-c.cpus in
    let k = c.loop-c.c in
    let h = c.index-cpus-c.result in
    let lt : k < length hs = omega (arith, c.loop-c-test.true, count_bodies hs, count_bodies c.args.cpus.now, ap length i.0) in
    let at : body_at (bodies_of c.args.cpus.now) k ≡ (get_or hs k h).body = ap (λ (l : List (Option OnPlainCpu)). body_at l k) (sym i.0) ∙ body_is hs k h lt in
    record {
      same = same_bodies hs k c.is_inside.new.cpu h lt c.is_inside.ensures.same ∙ i.0;
      outside = λ never. absurd (false≢true never);
      inside = λ _. (k, ap is_inside_of at ∙ (sym c.is_inside.ensures.value ∙ c.if-is_inside.true));
    }

pub loop-c-preserved : goal.loop-c-preserved
loop-c-preserved c =
    let i = c.loop-c.invariant in
    let hs = c.loop-c.cpus in
    let k = c.loop-c.c in
    let h = c.index-cpus-c.result in
    let lt : k < length hs = omega (arith, c.loop-c-test.true, count_bodies hs, count_bodies c.args.cpus.now, ap length i.0) in
    let at : body_at (bodies_of c.args.cpus.now) k ≡ (get_or hs k h).body = ap (λ (l : List (Option OnPlainCpu)). body_at l k) (sym i.0) ∙ body_is hs k h lt in (
      same_bodies hs k c.is_inside.new.cpu h lt c.is_inside.ensures.same ∙ i.0,
      below_more (λ d. is_inside_of (body_at (bodies_of c.args.cpus.now) d) ≡ false) k i.1 (ap is_inside_of at ∙ (sym c.is_inside.ensures.value ∙ c.if-is_inside.false)),
    )

pub returns : goal.returns
returns c =
    let i = c.loop-c.invariant in
    record {
      same = i.0;
      outside = λ _. all_outside (bodies_of c.args.cpus.now) c.loop-c.c (omega (arith, c.loop-c-test.false, count_bodies c.args.cpus.now)) i.1;
      inside = λ never. absurd (false≢true (sym never));
    }
