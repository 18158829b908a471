use Rattle.std.proofs.Common.{◌≡◌, ℕ, ◌<◌, length, Option, Some, None, Bool, true, ◌&&◌, refl, sym, ap, subst, ◌∙◌, arith}
use Rattle.passive_core.specs.Common.{all_seated, may_act, after_find, next_load}
use Rattle.protocol.specs.Common.{guard, some_outcome, after_seek, is_inside, may_seek, Holds, State, at_rest, search_at}
use Rattle.passive_core.specs.Types.{Entry, Reply, Done, Found, Missed, Key}
use Rattle.passive_core.proofs.Entering.{acting_idle, acting_on, idle_unsearching, IsTurn, Walks, left, load_turns, seek_starts, walk_goes_on}
use Rattle.passive_core.proofs.Making.{find_goes_on, find_starts}
use Rattle.passive_core.proofs.machine.Core.find.Goals.{After-load_next}
use Rattle.passive_core.proofs.machine.Core.find.Goals as goal

pub make-requires-clause-allowed : goal.make-requires-clause-allowed
make-requires-clause-allowed c =
    rw (c.seat_all.ensures, acting_idle c.args.self.now c.args.c (subst Holds c.self.view_is c.self.invariant) c.requires.known c.requires.ready, c.requires.inside) refl

starts : (s b t : State) (c : ℕ) (key : Key) (r : Reply) → Holds s → c < s.settings.cpus → may_act s c ≡ true → is_inside s c ≡ true → b ≡ all_seated s
    → guard (may_seek b c) (some_outcome (after_seek b c key) Done) ≡ Some (record { state = t; reply = r }) → Walks (all_seated s) t c key
starts s b t c key r on lt ready inside seated made =
    let idle = acting_idle s c on lt ready in
    let may : may_seek (all_seated s) c ≡ true = ap (λ (x : Bool). x && is_inside s c) idle ∙ inside in
    let low : c < length s.searches = omega (arith, on.shape.searches) in
    seek_starts (all_seated s) t c key r low may
    (subst (λ (x : State). guard (may_seek x c) (some_outcome (after_seek x c key) Done) ≡ Some (record { state = t; reply = r })) seated made)

pub walk-init : goal.walk-init
walk-init c =
    let on : Holds c.args.self.now = subst Holds c.self.view_is c.self.invariant in
    let key : Key = record { kind = c.args.kind; name = c.args.name.now } in (
      starts c.args.self.now c.seat_all.new.self c.make.new.self c.args.c key c.make.result on c.requires.known c.requires.ready c.requires.inside c.seat_all.ensures c.make.ensures,
      find_starts c.args.self.now c.seat_all.new.self c.make.new.self c.args.c key c.make.result on c.requires.rest c.seat_all.ensures c.make.ensures,
    )

turns : (b s t : State) (c : ℕ) (key : Key) (q r : Reply) → Holds b → c < b.settings.cpus → may_act b c ≡ true → Holds s → Walks (all_seated b) s c key → q ≡ r
    → next_load s c (search_at s c) ≡ Some (record { state = t; reply = q }) → IsTurn (all_seated b) c key (left s (search_at s c)) t r
turns b s t c key q r before lt ready on walks is made =
    subst (IsTurn (all_seated b) c key (left s (search_at s c)) t) is
    (load_turns (all_seated b) s t c key q on (idle_unsearching (all_seated b) c (acting_idle b c before lt ready)) walks made)

-- what the load that ends the walk tells
turned : (c : After-load_next) (r : Reply) → c.load_next.result ≡ r
    → IsTurn (all_seated c.args.self.now) c.args.c (record { kind = c.args.kind; name = c.args.name.now }) (left c.walk.self (search_at c.walk.self c.args.c)) c.load_next.new.self r
turned c r is =
    turns c.args.self.now c.walk.self c.load_next.new.self c.args.c (record { kind = c.args.kind; name = c.args.name.now }) c.load_next.result r (subst Holds c.self.view_is c.self.invariant)
    c.requires.known c.requires.ready c.load_next.ensures.holds c.walk.invariant.0 is c.load_next.ensures.made

pub returns-in-Found-clause-answer : goal.returns-in-Found-clause-answer
returns-in-Found-clause-answer c = (turned (goal.at.returns-in-Found-clause-answer c).After-load_next (Found c.in-Found.entry) c.in-Found.is).0

pub returns-in-Found-clause-after : goal.returns-in-Found-clause-after
returns-in-Found-clause-after c = (turned (goal.at.returns-in-Found-clause-after c).After-load_next (Found c.in-Found.entry) c.in-Found.is).1

pub returns-in-Missed-clause-answer : goal.returns-in-Missed-clause-answer
returns-in-Missed-clause-answer c = (turned (goal.at.returns-in-Missed-clause-answer c).After-load_next Missed c.in-Missed.is).0

pub returns-in-Missed-clause-after : goal.returns-in-Missed-clause-after
returns-in-Missed-clause-after c = (turned (goal.at.returns-in-Missed-clause-after c).After-load_next Missed c.in-Missed.is).1

ready_after : (s t : State) (c : ℕ) (answer : Option Entry) → Holds s → t ≡ after_find (all_seated s) c answer → (d : ℕ) → may_act s d ≡ true → may_act t d ≡ true
ready_after s t c answer on after d may = subst (λ (x : State). may_act x d ≡ true) (sym after) (acting_on s d on may)

pub returns-in-Found-clause-ready : goal.returns-in-Found-clause-ready
returns-in-Found-clause-ready c = ready_after c.args.self.now c.load_next.new.self c.args.c (Some c.in-Found.entry) (subst Holds c.self.view_is c.self.invariant)
    (turned (goal.at.returns-in-Found-clause-ready c).After-load_next (Found c.in-Found.entry) c.in-Found.is).1

pub returns-in-Missed-clause-ready : goal.returns-in-Missed-clause-ready
returns-in-Missed-clause-ready c = ready_after c.args.self.now c.load_next.new.self c.args.c None (subst Holds c.self.view_is c.self.invariant)
    (turned (goal.at.returns-in-Missed-clause-ready c).After-load_next Missed c.in-Missed.is).1

goes_on : (b s t : State) (c : ℕ) (key : Key) (r : Reply) → Holds b → c < b.settings.cpus → may_act b c ≡ true → Holds s → Walks (all_seated b) s c key
    → next_load s c (search_at s c) ≡ Some (record { state = t; reply = r }) → ((e : Entry) → r ≡ Found e → ⊥) → (r ≡ Missed → ⊥)
    → Walks (all_seated b) t c key × (left t (search_at t c) < left s (search_at s c))
goes_on b s t c key r before lt ready on walks made not_found not_missed =
    walk_goes_on (all_seated b) c key (left s (search_at s c)) t r (turns b s t c key r r before lt ready on walks refl made) not_found not_missed

pub walk-smaller : goal.walk-smaller
walk-smaller c =
    let on : Holds c.args.self.now = subst Holds c.self.view_is c.self.invariant in
    (goes_on c.args.self.now c.walk.self c.load_next.new.self c.args.c (record { kind = c.args.kind; name = c.args.name.now }) c.load_next.result on
    c.requires.known c.requires.ready c.load_next.ensures.holds c.walk.invariant.0 c.load_next.ensures.made c.in_default.not-Found c.in_default.not-Missed).1

pub walk-preserved : goal.walk-preserved
walk-preserved c =
    let key : Key = record { kind = c.args.kind; name = c.args.name.now } in (
      (goes_on c.args.self.now c.walk.self c.load_next.new.self c.args.c key c.load_next.result (subst Holds c.self.view_is c.self.invariant)
          c.requires.known c.requires.ready c.load_next.ensures.holds c.walk.invariant.0 c.load_next.ensures.made c.in_default.not-Found c.in_default.not-Missed).0,
      find_goes_on c.args.self.now c.walk.self c.load_next.new.self c.args.c key c.load_next.result c.load_next.ensures.event c.walk.invariant.1,
    )

pub returns-in-Found-clause-made : goal.returns-in-Found-clause-made
returns-in-Found-clause-made c =
    let key : Key = record { kind = c.args.kind; name = c.args.name.now } in
    find_goes_on c.args.self.now c.walk.self c.load_next.new.self c.args.c key c.load_next.result c.load_next.ensures.event c.walk.invariant.1

pub returns-in-Missed-clause-made : goal.returns-in-Missed-clause-made
returns-in-Missed-clause-made c =
    let key : Key = record { kind = c.args.kind; name = c.args.name.now } in
    find_goes_on c.args.self.now c.walk.self c.load_next.new.self c.args.c key c.load_next.result c.load_next.ensures.event c.walk.invariant.1

pub returns-in-Found-clause-rest : goal.returns-in-Found-clause-rest
returns-in-Found-clause-rest c = ap (λ (x : State). at_rest x.due) (returns-in-Found-clause-after c) ∙ c.requires.rest

pub returns-in-Missed-clause-rest : goal.returns-in-Missed-clause-rest
returns-in-Missed-clause-rest c = ap (λ (x : State). at_rest x.due) (returns-in-Missed-clause-after c) ∙ c.requires.rest
