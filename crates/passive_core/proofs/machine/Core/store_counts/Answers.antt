use Rattle.std.proofs.Common.{◌≡◌, ◌<◌, sym, ap, subst, ◌∙◌, arith}
use Rattle.protocol.specs.Common.{State, Holds}
use Rattle.passive_core.specs.Common.{Makes, count_stores_from}
use Rattle.passive_core.proofs.Attaching.{counts_stored, with_counts}
use Rattle.passive_core.proofs.Making.{counts_make}
use Rattle.passive_core.proofs.machine.Core.store_counts.Goals as goal

pub loop-c-preserved : goal.loop-c-preserved
loop-c-preserved c =
    let s = c.args.self.now in
    let on = subst Holds c.self.view_is c.self.invariant in
    let lt : c.loop-c.c < s.settings.cpus = subst (λ (x : State). c.loop-c.c < x.settings.cpus) c.self.view_is (omega (arith, c.loop-c-test.true)) in
    counts_stored s c.loop-c.self c.make.new.self c.make.result c.args.t c.loop-c.c on c.requires lt c.loop-c.invariant c.make.ensures

pub returns-clause-made : goal.returns-clause-made
returns-clause-made c =
    let s = c.args.self.now in
    let on = subst Holds c.self.view_is c.self.invariant in
    let cpus : c.self.inside.settings.cpus ≡ s.settings.cpus = ap (λ (x : State). x.settings.cpus) c.self.view_is in
    let last : c.loop-c.c ≡ s.settings.cpus = omega (arith, c.loop-c-test.false, c.loop-c.auto.c-end, cpus) in
    subst (Makes s (count_stores_from c.args.t 0 s.settings.cpus)) (sym (c.loop-c.invariant ∙ ap (with_counts s c.args.t) last)) (counts_make s c.args.t on c.requires)
