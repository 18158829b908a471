use Rattle.std.proofs.Common.{◌≡◌, ◌<◌, ◌∙◌, ap, arith, subst}
use Rattle.std.proofs.lemmas.Int.{ints}
use Rattle.protocol.specs.Common.{State, count_at, Holds}
use Rattle.registry_values.specs.Common.{local_of}
use Rattle.passive_core.proofs.Audits.{local_range, locals_more, row_long, word_small}
use Rattle.passive_core.proofs.machine.Core.locals_at.Goals as goal

pub local_of-requires : goal.local_of-requires
local_of-requires c = omega (arith, c.count_at.ensures, word_small c.args.self.now c.loop-c.c c.args.t c.requires.0 (subst Holds c.self.view_is c.self.invariant) c.requires.1)

pub loop-c-preserved : goal.loop-c-preserved
loop-c-preserved c =
    let on = subst Holds c.self.view_is c.self.invariant in
    let cpus = ap (λ (x : State). x.settings.cpus) c.self.view_is in
    let low : c.loop-c.c < c.args.self.now.settings.cpus = omega (arith, c.loop-c-test.true, cpus) in
    let range = local_range c.args.self.now c.loop-c.c c.args.t c.requires.0 on c.requires.1 low in
    let word : c.local_of.result ≡ local_of (count_at c.args.self.now.counts c.loop-c.c c.args.t) = c.local_of.ensures ∙ ap local_of c.count_at.ensures in
    c.in_ok-push.ensures.items ∙ locals_more _ c.loop-c.c _ c.loop-c.list.items
    (row_long c.args.self.now c.loop-c.c c.args.t c.requires.0 on c.requires.1 low) c.loop-c.invariant (omega (arith, ints, word, range))
