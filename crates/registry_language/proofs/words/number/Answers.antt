-- `number`: what it returns; that each turn of its loop keeps the invariants.
use Rattle.std.proofs.Common.{◌≡◌, true, rules}
use Rattle.registry_language.specs.Words.{is_numeral}
use Rattle.registry_language.proofs.Parsing.{gone_on, all_read, below}
use Rattle.registry_language.proofs.words.number.Goals as goal

pub loop-b-preserved : goal.loop-b-preserved
loop-b-preserved c =
    let h : is_numeral c.args.word.now ≡ true = search rules in
    record { value = gone_on c.args.word.now c.loop-b.b-index c.loop-b.n c.in-Some.more h c.loop-b-test.true c.loop-b.invariant.value c.in-Some.ensures; fits = below _ _ c.in-Some.ensures }

pub returns : goal.returns
returns c =
    let h : is_numeral c.args.word.now ≡ true = search rules in
    all_read c.args.word.now c.loop-b.b-index c.loop-b.n h c.loop-b-test.false c.loop-b.invariant.value c.loop-b.invariant.fits
