use Rattle.std.proofs.Common.{◌≡◌, ◌∙◌, sym, ap, subst, arith}
use Rattle.cpu_words.specs.Common.{IsBefore}
use Rattle.passive_list.specs.Common.{place_of, states_of}
use Rattle.passive_list.proofs.Leading.{oldest_before, oldest_to}
use Rattle.passive_list.proofs.links.slot_above.Goals as goal

pub returns-clause-before : goal.returns-clause-before
returns-clause-before c = λ ranks are.
    let rows = c.args.rows.now in
    let all : c.loop-t.t ≡ c.args.slots = omega arith in
    let is = c.place_of.ensures ∙ ap place_of (c.loop-t.invariant ∙ ap (oldest_to rows c.args.rank) all) in
    subst (IsBefore ranks (states_of rows) c.args.rank) (sym is) (oldest_before rows c.args.rank c.args.slots c.requires ranks are)
