-- A wait from C that went from call to call: what its turns say together.
use Rattle.std.proofs.Common.{◌≡◌, ⊎_elim, ℕ, zero, suc, ◌+◌, ◌==◌, if◌then◌else◌, Bool, true, false, List, [], Option, Some, None, Result, Ok, Err, refl, sym, ap, subst, ◌∙◌, append-nil, arith}
use Rattle.std.proofs.lemmas.Bool.{cases_eq, eqb-true}
use Rattle.std.proofs.lemmas.Option.{none-some, same_Some}
use mathlib.Core.List.{IsPrefix}
use Rattle.c_calls.specs.Types.{Change, Inside, WrongCpu, Settings}
use Rattle.registry_values.specs.Common.{number_of_refusal}
use Rattle.cpu_words.specs.Common.{Named}
use Rattle.passive_list.specs.Common.{HasHeardOn, OnCpu, OnPlainCpu, OnKeeper, OnPlainKeeper}
use Rattle.name_registry.specs.Common.{is_inside, Finishes, HasSeenAllOut}
use Rattle.name_registry.proofs.Waited.{SoFar, all_ended, all_seen, passed_out, so_far_begun, so_far_on, so_far_turn}
use Rattle.c_handles.specs.declared.values.plain.TheConstants.{DONE, NOT_BEGUN}
use Rattle.c_handles.specs.declared.values.wait.CWait.{CWait}
use Rattle.c_calls.specs.Turns.{Begins, EndsSections, IsAfter, IsLeft, IsTurnOfWait, IsUnderWay, PassesHeld, PerformAnswers, PerformsAt, SectionsEnd, TurnAnswers, TurnCalls, Turns, TurnsAt, TurnsOn, WaitsEnd, WaitsStay, WritesTold, why_refused}

-- What is so between two calls: the wait is the CPU's, and of what that CPU knows.

-- by the CPU x that began it, the wait, and what the CPU y knows now
abbrev So : Settings → OnPlainCpu → CWait → OnCpu → Type 0
So z x wait y = SoFar z.cpus x.cpu wait.snapshots wait.retired wait.seen y

abbrev Goes : Settings → OnPlainCpu → CWait → OnPlainCpu → Type 0
Goes z x wait m = (wait.begun ≡ m.cpu.view.id + 1) × So z x wait m.cpu

abbrev next : ℕ → ℕ
next n = n + 1

same_id : (h : List Change) (x y : OnCpu) → HasHeardOn h x y → y.view.id ≡ x.view.id
same_id h x y had = ap (λ (o : OnCpu). o.view.id) had.is

-- as it was begun

begun : (k : OnPlainKeeper) (x : OnPlainCpu) (l : OnPlainKeeper) (y : OnPlainCpu) (wait : CWait) → Begins k x l y wait → Goes k.words.settings x wait y
begun k x l y wait is =
    let first = so_far_begun k.words.settings x.cpu wait.snapshots wait.retired y.cpu (k.keeper, l.keeper, is.begun) in (
      is.its ∙ ap next (sym (same_id _ x.cpu y.cpu is.begun.hold.hears)),
      subst (λ (seen : List Bool). SoFar k.words.settings.cpus x.cpu wait.snapshots wait.retired seen y.cpu) (sym is.seen) first,
    )

-- in a turn

-- as the glances left the CPU
glanced : (x : OnPlainCpu) (k : OnPlainKeeper) (c : OnPlainCpu) (l : OnPlainKeeper) (y : OnPlainCpu) (told : Option ℕ) (old new : CWait) → So k.words.settings x old c.cpu
    → (is : Turns k c l y told old new) → SoFar k.words.settings.cpus x.cpu old.snapshots old.retired new.seen is.cpu
glanced x k c l y told old new had is = so_far_turn k.words.settings x.cpu old.snapshots old.retired old.seen c.cpu told new.seen is.cpu had (k.keeper, is.keeper, is.glanced)

-- and as the end left it
finished : (z : Settings) (numbers : List ℕ) (k : OnKeeper) (c : OnCpu) (told : Option ℕ) (l : OnKeeper) (y : OnCpu) → Finishes (PassesHeld z) numbers (k, c) told (l, y)
    → IsPrefix c.known_log y.known_log × (y.view.id ≡ c.view.id)
finished z numbers k c None l y is = (is.hears.known_log, same_id _ c y is.hears)
finished z numbers k c (Some other) l y is =
    let same : y ≡ c = ap (λ (p : OnKeeper × OnCpu). p.1) is in
    subst (λ (o : OnCpu). IsPrefix c.known_log o.known_log × (o.view.id ≡ c.view.id)) (sym same) (([], append-nil c.known_log), refl)

made : (x : OnPlainCpu) (k : OnPlainKeeper) (c : OnPlainCpu) (l : OnPlainKeeper) (y : OnPlainCpu) (told : Option ℕ) (old new : CWait) → old.begun ≡ c.cpu.view.id + 1 → So k.words.settings x old c.cpu
    → Turns k c l y told old new → Goes k.words.settings x new y
made x k c l y told old new its had is =
    let z = k.words.settings in
    let end = finished z old.retired is.keeper is.cpu told l.keeper y.cpu is.finished in
    let after = so_far_on z.cpus x.cpu old.snapshots old.retired new.seen is.cpu y.cpu end.0 (glanced x k c l y told old new had is) in
    let id : y.cpu.view.id ≡ c.cpu.view.id = end.1 ∙ same_id _ c.cpu is.cpu is.glanced.hold.hears in (
      ap (λ (w : CWait). w.begun) is.wait ∙ (its ∙ ap next (sym id)),
      subst (λ (w : CWait). SoFar z.cpus x.cpu w.snapshots w.retired new.seen y.cpu) (sym is.wait) after,
    )

-- the last one told none
ended : (x : OnPlainCpu) (k : OnPlainKeeper) (c : OnPlainCpu) (l : OnPlainKeeper) (y : OnPlainCpu) (told : Option ℕ) (old new : CWait) → told ≡ None → So k.words.settings x old c.cpu
    → Turns k c l y told old new → HasSeenAllOut k.words.settings.cpus x.cpu y.cpu
ended x k c l y told old new none had is =
    let z = k.words.settings in
    let after = glanced x k c l y told old new had is in
    let waited = all_seen z x.cpu old.snapshots old.retired c.cpu old.seen told new.seen is.cpu after (k.keeper, is.keeper, is.glanced) none in
    let passes : Finishes (PassesHeld z) old.retired (is.keeper, is.cpu) None (l.keeper, y.cpu) =
    subst (λ (o : Option ℕ). Finishes (PassesHeld z) old.retired (is.keeper, is.cpu) o (l.keeper, y.cpu)) none is.finished in
    passed_out z x.cpu old.snapshots old.retired new.seen is.cpu y.cpu after waited (is.keeper, l.keeper, passes)

-- Which turns are refused

-- one that isn't is by the wait's CPU
by_tests : (n i : ℕ) (inside a b : Bool) → (n == i + 1) ≡ b
    → (if a then Some NOT_BEGUN else (if b then (if inside then Some (number_of_refusal Inside) else None) else Some (number_of_refusal WrongCpu))) ≡ None → n ≡ i + 1
by_tests n i inside true b q is = absurd (none-some NOT_BEGUN (sym is))
by_tests n i inside false true q is = eqb-true n (i + 1) q
by_tests n i inside false false q is = absurd (none-some (number_of_refusal WrongCpu) (sym is))

its_cpu : (wait : CWait) (c : OnCpu) → why_refused wait c ≡ None → wait.begun ≡ c.view.id + 1
its_cpu wait c is = by_tests wait.begun c.view.id (is_inside c) (wait.begun == 0) (wait.begun == c.view.id + 1) refl is

-- what refuses one isn't done
not_done : (inside a b : Bool) (e : ℕ) → (if a then Some NOT_BEGUN else (if b then (if inside then Some (number_of_refusal Inside) else None) else Some (number_of_refusal WrongCpu))) ≡ Some e
    → DONE ≡ e → ⊥
not_done inside true b e is done = let q : ◌≡◌ {A = ℕ} 76 0 = same_Some _ _ is ∙ sym done in cc
not_done true false true e is done = let q : ◌≡◌ {A = ℕ} 7 0 = same_Some _ _ is ∙ sym done in cc
not_done false false true e is done = none-some e is
not_done inside false false e is done = let q : ◌≡◌ {A = ℕ} 11 0 = same_Some _ _ is ∙ sym done in cc

refused_undone : (wait : CWait) (c : OnCpu) (e : ℕ) → why_refused wait c ≡ Some e → DONE ≡ e → ⊥
refused_undone wait c e is = not_done (is_inside c) (wait.begun == 0) (wait.begun == c.view.id + 1) e is

-- From call to call, by the answer

begun_by : (k : OnPlainKeeper) (x : OnPlainCpu) (l : OnPlainKeeper) (y : OnPlainCpu) (old new : CWait) (b : Bool) → is_inside x.cpu ≡ b → PerformAnswers k x l y DONE old new
    → Goes k.words.settings x new y
begun_by k x l y old new true at is = absurd (let q : ◌≡◌ {A = ℕ} 0 7 = (is.inside at).0 in cc)
begun_by k x l y old new false at is = begun k x l y new (is.outside at).1

-- a turn that was refused changed nothing
stayed : (z : Settings) (x m c left y : OnPlainCpu) (old new : CWait) → Goes z x old m → IsAfter m c → IsLeft m c left y → left ≡ c → new ≡ old → Goes z x new y
stayed z x m c left y old new had after is_left same kept = ⊎_elim
    (λ (its : c.cpu.view.id ≡ m.cpu.view.id).
    let goes : Goes z x old c = (had.0 ∙ ap next (sym its), so_far_on z.cpus x.cpu old.snapshots old.retired old.seen m.cpu c.cpu (after its) had.1) in
    subst (λ (p : CWait × OnPlainCpu). Goes z x p.0 p.1) (λ i. (sym kept i, sym (is_left.its its ∙ same) i)) goes)
    (λ (other : c.cpu.view.id ≡ m.cpu.view.id → ⊥). subst (λ (p : CWait × OnPlainCpu). Goes z x p.0 p.1) (λ i. (sym kept i, sym (is_left.other other) i)) had)
    (cases_eq c.cpu.view.id m.cpu.view.id)

-- one that wasn't was by the wait's CPU, which knows all that it knew
on_its : (z : Settings) (x m c : OnPlainCpu) (old : CWait) → Goes z x old m → IsAfter m c → old.begun ≡ c.cpu.view.id + 1 → (c.cpu.view.id ≡ m.cpu.view.id) × So z x old c.cpu
on_its z x m c old had after its =
    let same : c.cpu.view.id ≡ m.cpu.view.id = omega (arith, had.0, its) in
    (same, so_far_on z.cpus x.cpu old.snapshots old.retired old.seen m.cpu c.cpu (after same) had.1)

went_by : (x m : OnPlainCpu) (k : OnPlainKeeper) (c : OnPlainCpu) (l : OnPlainKeeper) (left y : OnPlainCpu) (r : Result (Option ℕ) ℕ) (old new : CWait) (why : Option ℕ)
    → why_refused old c.cpu ≡ why → Goes k.words.settings x old m → IsAfter m c → IsLeft m c left y → TurnAnswers k c l left r old new → Goes k.words.settings x new y
went_by x m k c l left y r old new (Some e) at had after is_left is =
    let same = is.refused e at in
    stayed k.words.settings x m c left y old new had after is_left same.2 same.3
went_by x m k c l left y r old new None at had after is_left is =
    let its = its_cpu old c.cpu at in
    let on = on_its k.words.settings x m c old had after its in
    let turn = is.made at in
    subst (λ (o : OnPlainCpu). Goes k.words.settings x new o) (sym (is_left.its on.0)) (made x k c l left turn.0 old new its on.1 turn.2)

abbrev told_of : Result (Option ℕ) ℕ → Option ℕ
told_of (Ok told) = told
told_of (Err e) = None

told_none : (r : Result (Option ℕ) ℕ) (old new : Option ℕ) → WritesTold r DONE old new → told_of r ≡ None
told_none (Ok None) old new is = refl
told_none (Ok (Some c)) old new is = absurd (let q : ◌≡◌ {A = ℕ} 0 17 = is.0 in cc)
told_none (Err e) old new is = refl

refused_done : (r : Result (Option ℕ) ℕ) (e : ℕ) (old new : Option ℕ) → r ≡ Err e → WritesTold r DONE old new → DONE ≡ e
refused_done r e old new is writes = (subst (λ (s : Result (Option ℕ) ℕ). WritesTold s DONE old new) is writes).0

ended_by : (x m : OnPlainCpu) (k : OnPlainKeeper) (c : OnPlainCpu) (l : OnPlainKeeper) (left : OnPlainCpu) (r : Result (Option ℕ) ℕ) (old new : CWait) (place told why : Option ℕ)
    → why_refused old c.cpu ≡ why → Goes k.words.settings x old m → IsAfter m c → TurnAnswers k c l left r old new → WritesTold r DONE place told
    → (c.cpu.view.id ≡ m.cpu.view.id) × HasSeenAllOut k.words.settings.cpus x.cpu left.cpu
ended_by x m k c l left r old new place told (Some e) at had after is writes =
    absurd (refused_undone old c.cpu e at (refused_done r e place told (is.refused e at).0 writes))
ended_by x m k c l left r old new place told None at had after is writes =
    let on = on_its k.words.settings x m c old had after (its_cpu old c.cpu at) in
    let turn = is.made at in
    (on.0, ended x k c l left turn.0 old new (sym (ap told_of turn.1) ∙ told_none r place told writes) on.1 turn.2)

-- Through the handles

-- a wait that is there before and after
performed : (k : OnPlainKeeper) (x : OnPlainCpu) (l : OnPlainKeeper) (y : OnPlainCpu) (n : ℕ) (old new : CWait) → PerformsAt k x l y n (Some old) (Some new) → PerformAnswers k x l y n old new
performed k x l y n old new is = let made = is.there old refl in subst (λ (w : CWait). PerformAnswers k x l y n old w) (sym (same_Some _ _ made.1)) made.2

turned : (k : OnPlainKeeper) (c : OnPlainCpu) (l : OnPlainKeeper) (y : OnPlainCpu) (n : ℕ) (old new : CWait) (place told : Option ℕ) → TurnsAt k c l y n (Some old) (Some new) place told
    → (r : Result (Option ℕ) ℕ) × TurnAnswers k c l y r old new × WritesTold r n place told
turned k c l y n old new place told is =
    let made = is.there old refl in (made.2, subst (λ (w : CWait). TurnAnswers k c l y made.2 old w) (sym (same_Some _ _ made.1)) made.3, made.4)

turn_on : (words : Named) (x m : OnPlainCpu) (old : CWait) (answer : ℕ) (y : OnPlainCpu) (new : CWait) → Goes words.settings x old m → IsTurnOfWait words m old answer y new
    → Goes words.settings x new y
turn_on words x m old answer y new had is =
    let call = is.call.full is.keeper is.cpu refl refl in
    let turn = turned _ _ _ _ _ _ _ _ _ call.4 in
    let same : call.1 ≡ is.left = sym (same_Some _ _ call.3) in
    let answers : TurnAnswers is.keeper is.cpu call.0 is.left turn.0 old new = subst (λ (o : OnPlainCpu). TurnAnswers is.keeper is.cpu call.0 o turn.0 old new) same turn.1 in
    subst (λ (w : Named). Goes w.settings x old m → Goes w.settings x new y) is.ours
    (λ goes. went_by x m is.keeper is.cpu call.0 is.left y turn.0 old new (why_refused old is.cpu.cpu) refl goes is.after is.is_left answers) had

turns_on : (words : Named) (x : OnPlainCpu) (n : ℕ) (m : OnPlainCpu) (old : CWait) (y : OnPlainCpu) (new : CWait) → Goes words.settings x old m → TurnsOn n words m old y new
    → Goes words.settings x new y
turns_on words x zero m old y new had is = subst (λ (p : CWait × OnPlainCpu). Goes words.settings x p.0 p.1) (λ i. (sym is.1 i, sym is.0 i)) had
turns_on words x (suc n) m old y new had is = turn_on words x is.0 is.1 is.2 y new (turns_on words x n m old is.0 is.1 had is.3) is.4

under_way : (words : Named) (x m : OnPlainCpu) (wait : CWait) → IsUnderWay words x m wait → Goes words.settings x wait m
under_way words x m wait is =
    let call = is.begins.full is.keeper x refl refl in
    let first : Goes is.keeper.words.settings x is.begun call.1 = begun_by is.keeper x call.0 call.1 is.first is.begun (is_inside x.cpu) refl (performed _ _ _ _ _ _ _ call.4) in
    let same : call.1 ≡ is.cpu = sym (same_Some _ _ call.3) in
    turns_on words x is.turns is.cpu is.begun m wait (subst (λ (p : Named × OnPlainCpu). Goes p.0.settings x is.begun p.1) (λ i. (is.ours i, same i)) first) is.between

-- one call that answered done
done : (words : Named) (x m : OnPlainCpu) (k : OnPlainKeeper) (c : OnPlainCpu) (l : OnPlainKeeper) (left : OnPlainCpu) (old new : CWait) (place told : Option ℕ) → k.words ≡ words
    → Goes words.settings x old m → IsAfter m c → TurnsAt k c l left DONE (Some old) (Some new) place told → (c.cpu.view.id ≡ m.cpu.view.id) × HasSeenAllOut words.settings.cpus x.cpu left.cpu
done words x m k c l left old new place told ours had after is =
    let turn = turned k c l left DONE old new place told is in
    subst (λ (w : Named). Goes w.settings x old m → (c.cpu.view.id ≡ m.cpu.view.id) × HasSeenAllOut w.settings.cpus x.cpu left.cpu) ours
    (λ goes. ended_by x m k c l left turn.0 old new place told (why_refused old c.cpu) refl goes after turn.1 turn.2) had

pub waits_end : WaitsEnd
waits_end words x y is =
    let last = is.last.call.full is.last.keeper is.last.cpu refl refl in
    let end = done words x is.near is.last.keeper is.last.cpu last.0 last.1 is.left is.end is.last.place is.last.told is.last.ours (under_way words x is.near is.left is.under) is.last.after last.4 in
    subst (λ (o : OnPlainCpu). HasSeenAllOut words.settings.cpus x.cpu o.cpu) (sym (is.last.is_left.its end.0 ∙ same_Some _ _ last.3)) end.1

pub sections_end : SectionsEnd
sections_end words x y is = all_ended words.settings x.cpu y.cpu (waits_end words x y is)

-- what one turn says by itself, of what went before
pub ends_sections : (k k' : Option OnPlainKeeper) (c c' : Option OnPlainCpu) (n : ℕ) (wait wait' : Option CWait) (old new : Option ℕ) → TurnCalls k c k' c' n wait wait' old new
    → EndsSections k c c' n wait
ends_sections k k' c c' n wait wait' old new call a x m b y w has is left at done_now under after =
    let made = call.full a b has is in
    let same : made.1 ≡ y = same_Some _ _ (sym made.3 ∙ left) in
    let there = made.4.there w at in
    let turn : TurnsAt a b made.0 y DONE (Some w) (Some there.0) old new =
    subst (λ (p : OnPlainCpu × (ℕ × (Option CWait × Option CWait))). TurnsAt a b made.0 p.0 p.1.0 p.1.1.0 p.1.1.1 old new) (λ i. (same i, (done_now i, (at i, there.1 i)))) made.4 in
    all_ended a.words.settings x.cpu y.cpu (done a.words x m a b made.0 y w there.0 old new refl (under_way a.words x m w under) after turn).1

-- It stays the CPU's

begun_after : (k : OnPlainKeeper) (c : OnPlainCpu) (l : OnPlainKeeper) (y : OnPlainCpu) (r : Result (Option ℕ) ℕ) (old new : CWait) (why : Option ℕ) → why_refused old c.cpu ≡ why
    → TurnAnswers k c l y r old new → new.begun ≡ old.begun
begun_after k c l y r old new (Some e) at is = ap (λ (w : CWait). w.begun) (is.refused e at).3
begun_after k c l y r old new None at is = ap (λ (w : CWait). w.begun) (is.made at).2.wait

pub waits_stay : WaitsStay
waits_stay zero words x y old new is = ap (λ (w : CWait). w.begun) is.1
waits_stay (suc n) words x y old new is =
    let turn = is.4 in
    let call = turn.call.full turn.keeper turn.cpu refl refl in
    let made = turned _ _ _ _ _ _ _ _ _ call.4 in
    begun_after turn.keeper turn.cpu call.0 call.1 made.0 is.1 new (why_refused is.1 turn.cpu.cpu) refl made.1 ∙ waits_stay n words x is.0 old is.1 is.3
