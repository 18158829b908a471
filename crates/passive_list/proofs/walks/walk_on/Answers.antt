-- The data agree with the view as a walk is over.
use Rattle.std.proofs.Common.{◌≡◌, ℕ, Option, None, length, refl, sym, ap, ◌∙◌, subst}
use Rattle.passive_list.specs.Types.{Search}
use Rattle.passive_list.specs.Common.{OnCpu, OnPlainCpu, HasGoneOverBy, HasWalked}
use Rattle.passive_list.proofs.Agreeing.{seen_agrees, own_agrees}
use Rattle.passive_list.proofs.GoingOver.{walked}
use Rattle.passive_list.proofs.walks.walk_on.Goals as goal

pub invariant_of-cpu : goal.invariant_of-cpu
invariant_of-cpu g c =
    let x = c.cpu.inside.seat.view in
    let y = c.go_over-count.new.seat.view in
    let had = c.go_over-count.ensures.change.2 in
    let is : y ≡ record x { pass = y.pass; found = None } = had.is ∙ ap (λ (s : Option Search). record x { pass = y.pass; search = s; found = None }) (sym c.cpu.invariant.idle.search) in
    own_agrees _ _ _ _ _ _ _ _ _ _ _ (seen_agrees _ _ _ _ x y _ _ _ _ _ None _ _ _ x.noted_pass c.cpu.invariant c.go_over-count.ensures.is_shown c.go_over-count.ensures.table had.pass is refl)

pub returns-clause-walked : goal.returns-clause-walked
returns-clause-walked g c =
    let x = c.cpu.inside.seat in
    let y = c.go_over-count.new.seat in
    let a : OnCpu = record { view = x.view; depth = c.cpu.inside.depth; made = 0; memory = c.cpu.inside.memory; known_log = x.known_log; log = x.log } in
    let b : OnCpu = record { view = y.view; depth = c.cpu.inside.depth; made = 0; memory = c.cpu.inside.memory; known_log = y.known_log; log = y.log } in
    let had = c.go_over-count.ensures.change in
    let log = subst (λ (i : ℕ). HasGoneOverBy i x.view.settings.slots (length had.0) x.log y.log) (sym c.cpu.invariant.id)
    (subst (λ (n : ℕ). HasGoneOverBy c.cpu.inside.row.cpu x.view.settings.slots n x.log y.log) had.1 c.go_over-count.ensures.log) in (
      had.0,
      had.1,
      subst (λ (v : OnPlainCpu). HasWalked v.cpu b had.0) c.cpu.view_is
          (walked a b had.0 c.cpu.invariant.idle.search had.2 refl refl refl c.go_over-count.ensures.known_log log),
      had.3,
    )
