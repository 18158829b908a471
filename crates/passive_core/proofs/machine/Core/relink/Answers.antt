use Rattle.std.proofs.Common.{◌≡◌, ℕ, length, refl, sym, ap, subst, ◌∙◌}
use Rattle.protocol.specs.Common.{Holds, IsLiveAt, State, entry_of, may_republish, row_at}
use Rattle.protocol.proofs.History.{attached_within}
use Rattle.registry_values.specs.Common.{slot_at, slot_before}
use Rattle.passive_core.specs.Common.{state_shown}
use Rattle.passive_core.specs.Types.{Entry, Republish, Done, Live}
use Rattle.protocol.proofs.keeps.Keeping.{step_holds}
use Rattle.passive_core.proofs.machine.Core.relink.Goals as goal
use Rattle.passive_core.proofs.machine.Core.relink.Goals.{in-Some, in-None}
use Rattle.protocol.specs.History.{rank_at}

-- what a slot shows as live is live now
live_now : {i s : State} (t : ℕ) (e : Entry) → i ≡ s → Holds i → slot_at s.slots t ≡ Live e → IsLiveAt s.history (length s.history) e
live_now {i} {s} t e view on live = ((subst Holds view on).slots.live t e live).0

pub rank_at-rank-requires-clause-above : goal.rank_at-rank-requires-clause-above
rank_at-rank-requires-clause-above c = (attached_within _ c.args.gone (live_now c.args.old c.args.gone c.self.view_is c.self.invariant c.requires.live).attached).0

pub rank_at-rank-requires-clause-within : goal.rank_at-rank-requires-clause-within
rank_at-rank-requires-clause-within c = (live_now c.args.old c.args.gone c.self.view_is c.self.invariant c.requires.live).begun

pub invariant_of-self-2 : goal.invariant_of-self-2
invariant_of-self-2 c =
    let entry = ap (λ (x : State). entry_of c.args.new (row_at x.rows c.args.new)) c.self.view_is ∙ c.requires.entry in
    let live = ap (λ (x : State). slot_at x.slots c.args.old) c.self.view_is ∙ c.requires.live in
    let may = ap (λ (x : State). may_republish x c.args.new c.args.old c.args.entry c.args.gone) c.self.view_is ∙ c.requires.may in
    let before = c.slot_before-before.ensures.value ∙ ap (λ (x : State). slot_before x.slots x.next c.args.old) (sym c.self.view_is) in
    let rank = c.rank_at-rank.ensures ∙ ap (λ (x : State). rank_at x.history c.args.gone.number) (sym c.self.view_is) in
    elim c.match-before.branch [
      | in-Some w ↦
          let some = sym before ∙ w.in-Some.is in
          rw w.self-inside-is (step_holds (state_shown c.self.inside) _ (Republish c.args.new c.args.old) Done c.self.invariant (rw (entry, live, may, some, c.in_ok-grow.ensures.ok, rank) refl))
      | in-None w ↦
          let none = sym before ∙ w.in-None.is in
          rw w.self-inside-is (step_holds (state_shown c.self.inside) _ (Republish c.args.new c.args.old) Done c.self.invariant (rw (entry, live, may, none, c.in_ok-grow.ensures.ok, rank) refl))
    ]

pub returns : goal.returns
returns c =
    let before = sym c.slot_before-before.ensures.value in
    let rank = sym c.rank_at-rank.ensures in
    elim c.match-before.branch [
      | in-Some w ↦ rw (w.self-inside-is, c.requires.entry, c.requires.live, c.requires.may, before ∙ w.in-Some.is, rank, ← c.self.view_is, c.in_ok-grow.ensures.ok) refl
      | in-None w ↦ rw (w.self-inside-is, c.requires.entry, c.requires.live, c.requires.may, before ∙ w.in-None.is, rank, ← c.self.view_is, c.in_ok-grow.ensures.ok) refl
    ]
