-- Whether all handles are empty.
use Rattle.std.proofs.Common.{◌≡◌, ◌<◌, None, below_more, List, length, Option, sym, ap, ◌∙◌, arith, get_or}
use Rattle.std.proofs.lemmas.Bool.{false≢true}
use Rattle.passive_list.specs.Common.{OnPlainCpu}
use Rattle.c_calls.specs.Opening.{bodies_of, body_at}
use Rattle.c_calls.proofs.Handles.{body_is, count_bodies, same_bodies}
use Rattle.c_calls.proofs.Audited.{all_none}
use Rattle.c_calls.proofs.opening.are_empty.Goals as goal

pub returns-then-not-is_empty : goal.returns-then-not-is_empty
returns-then-not-is_empty c =
    let i = c.loop-c.invariant in
    let hs = c.loop-c.cpus in
    let k = c.loop-c.c in
    let h = c.index-cpus-c.result in
    let lt : k < length hs = omega (arith, c.loop-c-test.true, count_bodies hs, count_bodies c.args.cpus.now, ap length i.0) in
    let had = c.is_empty.ensures.full c.if-not-is_empty.true in
    record {
      same = same_bodies hs k c.is_empty.new.self h lt c.is_empty.ensures.same ∙ i.0;
      empty = λ never. absurd (false≢true never);
      full = λ _. (k, had.0, (ap (λ (l : List (Option OnPlainCpu)). body_at l k) (sym i.0) ∙ body_is hs k h lt) ∙ had.1);
    }

pub loop-c-preserved : goal.loop-c-preserved
loop-c-preserved c =
    let i = c.loop-c.invariant in
    let hs = c.loop-c.cpus in
    let k = c.loop-c.c in
    let h = c.index-cpus-c.result in
    let lt : k < length hs = omega (arith, c.loop-c-test.true, count_bodies hs, count_bodies c.args.cpus.now, ap length i.0) in
    let at : body_at (bodies_of c.args.cpus.now) k ≡ (get_or hs k h).body = ap (λ (l : List (Option OnPlainCpu)). body_at l k) (sym i.0) ∙ body_is hs k h lt in
    (same_bodies hs k c.is_empty.new.self h lt c.is_empty.ensures.same ∙ i.0, below_more (λ d. body_at (bodies_of c.args.cpus.now) d ≡ None) k i.1 (at ∙ c.is_empty.ensures.empty c.if-not-is_empty.false))

pub returns : goal.returns
returns c =
    let i = c.loop-c.invariant in
    record {
      same = i.0;
      empty = λ _. all_none (bodies_of c.args.cpus.now) c.loop-c.c (omega (arith, c.loop-c-test.false, count_bodies c.args.cpus.now)) i.1;
      full = λ never. absurd (false≢true (sym never));
    }
