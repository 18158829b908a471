-- The data agree with the view as a section begins.
use Rattle.std.proofs.Common.{◌≡◌, ◌+◌, ◌<◌, IsTrue, sym, subst, ap, ◌∙◌, arith}
use Rattle.passive_list.specs.Common.{OnPlainCpu, may_begin}
use Rattle.cpu_words.proofs.seats.Seating.{step_is_shown}
use Rattle.passive_list.proofs.Agreeing.{entered_agrees, own_agrees, unspent, entered_on}
use Rattle.passive_list.proofs.sections.begin.Goals as goal

pub invariant_of-cpu : goal.invariant_of-cpu
invariant_of-cpu c =
    let room : c.cpu.inside.ended < c.cpu.inside.seat.view.settings.section_limit =
    unspent _ _ _ _ _ _ _ _ _ _ _ c.cpu.invariant (subst (λ (o : OnPlainCpu). IsTrue (may_begin o.cpu.view)) (sym c.cpu.view_is) c.requires.room) in
    let shallow : c.cpu.inside.depth ≡ 0 = ap (λ (o : OnPlainCpu). o.cpu.depth) c.cpu.view_is ∙ c.requires.outside in
    own_agrees _ _ _ _ _ _ _ _ _ _ _ (entered_agrees _ _ _ _ _ _ _ _ _ _ _ _ _ c.cpu.invariant (step_is_shown c.enter.ensures.step.event) c.enter.ensures.step.table shallow room c.enter.ensures.change)

pub returns-clause-entered : goal.returns-clause-entered
returns-clause-entered c =
    let shallow : c.cpu.inside.depth ≡ 0 = ap (λ (o : OnPlainCpu). o.cpu.depth) c.cpu.view_is ∙ c.requires.outside in
    let one : 1 ≡ c.cpu.inside.depth + 1 = omega (arith, shallow) in
    entered_on _ _ _ _ _ _ _ (ap (λ (o : OnPlainCpu). o.cpu) c.cpu.view_is) c.cpu.invariant.id shallow one c.enter.ensures.step c.enter.ensures.change
