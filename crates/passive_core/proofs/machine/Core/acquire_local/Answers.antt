use Rattle.std.proofs.Common.{◌≡◌, ◌∙◌, ◌<◌, ℕ, Bool, None, Some, ap, subst, sym, true}
use Rattle.std.specs.Prelude.{if◌then◌else◌}
use Rattle.protocol.specs.Common.{State, at_rest, Holds}
use Rattle.passive_core.specs.Common.{all_seated, may_act, after_counting, count_refusal, with_count_more}
use Rattle.passive_core.specs.Types.{LocalFull}
use Rattle.passive_core.proofs.Locals.{Acquired, acquires, count_allowed, more_count_ready, none_from}
use Rattle.passive_core.proofs.Making.{acquire_makes}
use Rattle.passive_core.proofs.Entering.{acting_idle}
use Rattle.passive_core.proofs.machine.Core.acquire_local.Goals.{After-split_in_place}
use Rattle.passive_core.proofs.machine.Core.acquire_local.Goals as goal

pub make-requires-clause-allowed : goal.make-requires-clause-allowed
make-requires-clause-allowed c =
    let s = c.args.self.now in
    let on = subst Holds c.self.view_is c.self.invariant in
    let made = c.in-Ok.ensures.ok in
    let idle = c.begin.ensures.idle c.args.c (subst (λ (x : State). c.args.c < x.settings.cpus) (sym made) c.requires.known)
    (subst (λ (x : State). may_act x c.args.c ≡ true) (sym made) c.requires.ready) in
    count_allowed s c.begin.new.self c.args.c c.in-Some.found on (sym c.in-Some.ensures.value) (c.begin.ensures.seated ∙ ap all_seated made) idle
    (c.why_uncounted.ensures.room (none_from _ c.in_default-why_uncounted.not-Some))

-- the reference that both events made
acquired : (c : After-split_in_place) → (t : ℕ) × Acquired c.args.self.now c.split_in_place.new.self c.args.c c.in-Some.found.number t c.split_in_place.result
acquired c =
    let s = c.args.self.now in
    let on = subst Holds c.self.view_is c.self.invariant in
    let made = c.in-Ok.ensures.ok in
    let idle = c.begin.ensures.idle c.args.c (subst (λ (x : State). c.args.c < x.settings.cpus) (sym made) c.requires.known)
    (subst (λ (x : State). may_act x c.args.c ≡ true) (sym made) c.requires.ready) in
    let room = c.why_uncounted.ensures.room (none_from _ c.in_default-why_uncounted.not-Some) in
    acquires s c.begin.new.self c.make.new.self c.split_in_place.new.self c.args.c c.split_in_place.result c.in-Some.found _ on (sym c.in-Some.ensures.value) c.requires.known
    (c.begin.ensures.seated ∙ ap all_seated made) idle room c.make.ensures c.split_in_place.ensures

pub returns-clause-answer : goal.returns-clause-answer
returns-clause-answer c =
    let room = c.why_uncounted.ensures.room (none_from _ c.in_default-why_uncounted.not-Some) in (
      ap (count_refusal c.args.self.now c.args.c) (sym c.in-Some.ensures.value) ∙ ap (λ (b : Bool). if b then None else Some LocalFull) room,
      (acquired (goal.at.returns-clause-answer c).After-split_in_place).1.least,
    )

pub returns-clause-after : goal.returns-clause-after
returns-clause-after c =
    let all = acquired (goal.at.returns-clause-after c).After-split_in_place in
    all.1.state ∙ (ap (with_count_more c.args.self.now c.args.c c.in-Some.found.number) (sym all.1.slot) ∙ ap (after_counting c.args.self.now c.args.c) c.in-Some.ensures.value)

pub returns-clause-settings : goal.returns-clause-settings
returns-clause-settings c = ap (λ (x : State). x.settings) (acquired (goal.at.returns-clause-settings c).After-split_in_place).1.state

pub returns-clause-rest : goal.returns-clause-rest
returns-clause-rest c = ap (λ (x : State). at_rest x.due) (acquired (goal.at.returns-clause-rest c).After-split_in_place).1.state ∙ c.requires.rest

pub returns-clause-ready : goal.returns-clause-ready
returns-clause-ready c = λ d may.
    let all = acquired (goal.at.returns-clause-ready c).After-split_in_place in
    subst (λ (x : State). may_act x d ≡ true) (sym all.1.state) (more_count_ready c.args.self.now c.args.c c.in-Some.found.number (Some all.0) (subst Holds c.self.view_is c.self.invariant) d may)

pub returns-clause-made : goal.returns-clause-made
returns-clause-made c =
    let s = c.args.self.now in
    let on = subst Holds c.self.view_is c.self.invariant in
    let room = c.why_uncounted.ensures.room (none_from _ c.in_default-why_uncounted.not-Some) in
    let all = acquired (goal.at.returns-clause-made c).After-split_in_place in
    acquire_makes s c.split_in_place.new.self c.args.c all.0 c.in-Some.found on c.requires.rest (sym c.in-Some.ensures.value) c.requires.known
    (acting_idle s c.args.c on c.requires.known c.requires.ready) room all.1.slot all.1.state
