use Rattle.std.proofs.Common.{◌≡◌, ◌∙◌, ◌-◌, ◌*◌, ◌<◌, ℕ, List, [], length, ap, drop, get_or, subst, sym, take, arith}
use Rattle.std.proofs.lemmas.List.{take_rest}
use Rattle.passive_list.specs.Types.{Mark}
use Rattle.passive_list.specs.Common.{OnPlainKeeper}
use Rattle.passive_list.proofs.Marks.{marks_from}
use Rattle.passive_list.proofs.keeper.Keeper.marks_of.Goals as goal

pub returns : goal.returns
returns c =
    let inside = c.self.inside in
    let t = c.args.slot in
    let within = subst (λ (x : OnPlainKeeper). t < x.words.settings.slots) (sym c.self.view_is) c.requires in
    let from : c.mark_place.result ≡ t * inside.settings.cpus = omega (arith, c.mark_place.ensures) in
    let n = inside.settings.cpus in
    let ms = c.deref.result.now in
    let p = c.mark_place.result in
    let is = ap (take n) (take_rest ms p) ∙ ap (λ (ms : List Mark). take n (drop p ms)) c.deref.ensures.value ∙ ap (λ (p : ℕ). take n (drop p inside.marks.items)) from ∙ marks_from _ _ _ _ c.self.invariant.0.view c.self.invariant.1 within in
    subst (λ (x : OnPlainKeeper). take x.words.settings.cpus (take (length ms - p) (drop p ms)) ≡ take x.words.settings.cpus (get_or x.keeper.view.marks t [])) c.self.view_is is
