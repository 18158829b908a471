-- The words of a slot, one after the other.
use Rattle.std.proofs.Common.{refl, sym, subst, Bool}
use Rattle.cpu_words.specs.Common.{key_with}
use Rattle.passive_list.specs.Common.{HasVisited}
use Rattle.passive_list.proofs.Walking.{at_kind, at_high, at_low, may_load, visited, four_loaded}
use Rattle.passive_list.proofs.lookup.visit.Goals as goal

pub load_searched-found-requires-clause-may : goal.load_searched-found-requires-clause-may
load_searched-found-requires-clause-may c =
    may_load _ (key_with c.args.kind c.args.name) _ _ 1 _ (at_kind _ _ (key_with c.args.kind c.args.name) _ _ _ c.requires.may.1 c.load_searched-number.ensures.change) (refl, refl)

pub load_searched-high-requires-clause-may : goal.load_searched-high-requires-clause-may
load_searched-high-requires-clause-may c = may_load _ (key_with c.args.kind c.args.name) _ _ 2 _
    (at_high _ _ _ (key_with c.args.kind c.args.name) _ _ _ _ c.requires.may.1 c.load_searched-number.ensures.change c.load_searched-found.ensures.change) (refl, refl)

pub load_searched-low-requires-clause-may : goal.load_searched-low-requires-clause-may
load_searched-low-requires-clause-may c = may_load _ (key_with c.args.kind c.args.name) _ _ 3 _
    (at_low _ _ _ _ (key_with c.args.kind c.args.name) _ _ _ _ _ c.requires.may.1
    c.load_searched-number.ensures.change c.load_searched-found.ensures.change c.load_searched-high.ensures.change) (refl, refl)

pub returns-clause-change : goal.returns-clause-change
returns-clause-change c =
    let key = key_with c.args.kind c.args.name in
    let all = visited c.args.seat.now.view c.load_searched-number.new.seat.view c.load_searched-found.new.seat.view c.load_searched-high.new.seat.view c.load_searched-low.new.seat.view
    key c.args.slot c.load_searched-number.result c.load_searched-found.result c.load_searched-high.result c.load_searched-low.result
    c.load_searched-number.ensures.change c.load_searched-found.ensures.change c.load_searched-high.ensures.change c.load_searched-low.ensures.change in
    subst (λ (b : Bool). HasVisited c.args.seat.now.view key c.args.slot c.load_searched-number.result b c.load_searched-low.new.seat.view) (sym c.are_words_of.ensures) all

pub returns-clause-log : goal.returns-clause-log
returns-clause-log c =
    four_loaded c.args.cpu _ _ _ _ _ _ _ _ _ c.load_searched-number.ensures.step.log c.load_searched-found.ensures.step.log c.load_searched-high.ensures.step.log c.load_searched-low.ensures.step.log
