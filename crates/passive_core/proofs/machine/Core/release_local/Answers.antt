use Rattle.std.proofs.Common.{Bool, [], ◌∷◌, ◌∙◌, ◌≡◌, subst, sym, true}
use Rattle.std.specs.Prelude.{if◌then◌else◌}
use Rattle.passive_core.specs.Types.{CountDown, JoinRef, SplitBack}
use Rattle.protocol.specs.Common.{State}
use Rattle.passive_core.specs.Common.{Makes, may_act, local_slot}
use Rattle.passive_core.proofs.Locals.{less_count_ready}
use Rattle.passive_core.proofs.Making.{released_by_count, released_by_total}
use Rattle.passive_core.proofs.machine.Core.release_local.Goals as goal

pub returns-else-not-count_down-clause-ready : goal.returns-else-not-count_down-clause-ready
returns-else-not-count_down-clause-ready c = λ d may.
    subst (λ (x : State). may_act x d ≡ true) (sym (c.count_down.ensures.counted c.if-not-count_down.false))
    (less_count_ready c.begin.new.self c.args.c c.args.id (local_slot c.begin.new.self c.args.id) d (c.begin.ensures.ready d may))

pub returns-else-not-count_down-clause-made : goal.returns-else-not-count_down-clause-made
returns-else-not-count_down-clause-made c =
    released_by_count c.args.self.now c.begin.new.self c.count_down.new.self c.args.c c.args.id c.begin.ensures.sound c.requires.rest c.begin.ensures.seated
    (sym c.count_down.ensures.value ∙ c.if-not-count_down.false)
    (subst (λ (b : Bool). Makes c.begin.new.self (JoinRef c.args.c c.args.id ∷ CountDown c.args.c ∷ (if b then [] else SplitBack c.args.c ∷ [])) c.count_down.new.self) c.if-not-count_down.false
    c.count_down.ensures.made)

pub returns-then-not-count_down-clause-made : goal.returns-then-not-count_down-clause-made
returns-then-not-count_down-clause-made c =
    released_by_total c.args.self.now c.begin.new.self c.count_down.new.self c.release_under.new.self c.args.c c.args.id c.begin.ensures.sound c.requires.rest c.begin.ensures.seated
    (c.count_down.ensures.kept c.if-not-count_down.true) (sym c.count_down.ensures.value ∙ c.if-not-count_down.true)
    (subst (λ (b : Bool). Makes c.begin.new.self (JoinRef c.args.c c.args.id ∷ CountDown c.args.c ∷ (if b then [] else SplitBack c.args.c ∷ [])) c.count_down.new.self) c.if-not-count_down.true
    c.count_down.ensures.made)
    c.release_under.ensures.made
