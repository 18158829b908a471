-- A new CPU's data agree with the view of its seat.
use Rattle.std.proofs.Common.{◌≡◌, ◌<◌, ℕ, List, ◌∙◌, ap, refl, subst, sym, arith}
use Rattle.passive_list.specs.Types.{CpuView}
use Rattle.cpu_words.specs.Common.{new_cpu, IsRowOf}
use Rattle.passive_list.specs.Common.{AreNewRows, IsOurCpu, Memory, NumberedCount, no_found}
use Rattle.passive_list.proofs.Agreeing.{new_agrees, own_agrees}
use Rattle.passive_list.proofs.plain_cpu.PlainCpu.of_seat.Goals as goal

pub invariant_of-result : goal.invariant_of-result
invariant_of-result c =
    let t = c.args.seat.table in
    let a = c.args.seat.view.settings in
    let i = c.rows.inside in
    let r = c.of.result in
    let few : r.cpu < a.cpus = omega (arith, c.of.ensures.cpu, c.requires.fit.1) in
    let rows = subst (λ (n : ℕ). AreNewRows n i.passive.items i.net.items i.memory) (c.rows.view_is ∙ c.requires.rows) c.rows.invariant in
    let row = subst (λ (n : ℕ). IsRowOf n r) (c.rows.view_is ∙ c.requires.rows) c.of.ensures.row in
    let new = subst (λ (k : List NumberedCount × List NumberedCount × Memory). IsOurCpu t a t (new_cpu a r.cpu) r 0 0 no_found k.0 k.1 k.2)
    (λ k. (sym rows.references_are k, sym rows.nets_are k, sym rows.kept_is k)) (new_agrees t a t r refl c.requires.fit.0 few row) in
    let view : new_cpu a r.cpu ≡ c.args.seat.view = ap (new_cpu a) c.of.ensures.cpu ∙ sym c.requires.new in
    own_agrees _ _ _ _ _ _ _ _ _ _ _ (subst (λ (v : CpuView). IsOurCpu t a t v r 0 0 no_found i.passive.items i.net.items i.memory) view new)
