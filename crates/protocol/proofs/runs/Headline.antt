-- All laws of a state with the invariant: the grace law, the balance at rest, drivers that outlive their interfaces, the headline.
use Rattle.std.proofs.Common.{◌≡◌, ℕ, ◌⊎◌, inl, inr, List, [], ◌∷◌, Some, None, IsSome, refl, sym, ap, ◌∙◌, arith, get_or-set_other, ◌<◌, Bool, true, false, subst, ◌≤◌, ◌++◌, length, Option}
use Rattle.std.proofs.lemmas.Bool.{and_parts, cases_eq}
use Rattle.std.proofs.lemmas.Option.{none-some}
use Rattle.protocol.specs.Types.{Entry, Slot, Vacant, Live, Retired, Change}
use Rattle.registry_values.specs.Common.{bias, slot_at, slot_of, has_number}
use Rattle.protocol.specs.Common.{Reply, Event, Exit, State, opening, section_at, begin_at, Holds, HasExit, EndsByExit, GraceLaw, Rest, mark_at, count_at, total_at, at_rest, IsIn, IsCounting, IsBalanced, BalancesAtRest, BalanceAtRest, kept_at, ReusesSafely, SafeReuse, OutliveInterfaces, DriversOutlive, Due, IsAttached, Occupies, IsUnheld, IsAllowed, IsSafe, Headline, ObeysLaws, InvariantSuffices}
use Rattle.protocol.specs.Laws
use Rattle.protocol.specs.Model
use Rattle.protocol.specs.Invariant
use Rattle.protocol.specs.Events
use Rattle.protocol.proofs.keeps.Keeping.{step_keeps, after_keeps, ran_keeps}
use Rattle.protocol.proofs.keeps.SectionKeeps.{none_from}
use Rattle.protocol.proofs.Made.{Made, Enters, Exits, each_event}
use Rattle.protocol.proofs.runs.Steps.{after_more}
use Rattle.protocol.proofs.runs.Reuse.{every_run_keeps, number_is, goes, comes, given_vacant, keeps_same, goes_or_stays, destroyed_drained}
use Rattle.protocol.proofs.Either.{either}
use Rattle.protocol.proofs.Occupied.{at_rest_tells, attached_in, slot_occupied}
use Rattle.protocol.proofs.History.{attached_within, one_entry}
use Rattle.protocol.proofs.runs.Answers.{history_grows, answers_lawful, search_begun, answers_lawfully}
use Rattle.protocol.proofs.keeps.Drivers.{rightly_some}
use Rattle.protocol.proofs.counts.Sums.{one_other, no_standing, no_hand, unoccupied}
use Rattle.protocol.proofs.model.RefiningEntries.{drained, number_of}
use Rattle.protocol.proofs.runs.Fresh.{answers_freshly, sees_all, recalls_live, recalls_newest}
use Rattle.protocol.proofs.runs.Replacing.{replaces_at_once}
use Rattle.protocol.proofs.model.Refining.{ran_refines}

-- The grace law: what the word of a CPU tells of its sections.

-- the word of c and the begin of its section are as they were
abbrev pub Same : ℕ → State → State → Type 0
Same c s t = (section_at t c ≡ section_at s c) × (begin_at t c ≡ begin_at s c)

-- each event leaves an open section of c, except its exit
made_open : (s n : State) (c b : ℕ) (e : Event) (r : Reply) → Made s e n r → begin_at s c ≡ Some b → Same c s n ⊎ (e ≡ Exit c)
made_open s _ c b _ _ (Enters j may) in_ = grind (arith, and_parts, none-some, none_from, get_or-set_other, cases_eq c j)
made_open s _ c b _ _ (Exits j may) in_ = grind (arith, get_or-set_other, cases_eq c j)
made_open s _ c b _ _ _ in_ = inl (refl, refl)

stays_open : (s : State) (c b : ℕ) (e : Event) → begin_at s c ≡ Some b → Same c s (Laws.after_event s e) ⊎ ((e ≡ Exit c) × IsSome (Events.step s e))
stays_open s c b e in_ = each_event (λ o. Same c s (Events.state_after s o) ⊎ ((e ≡ Exit c) × IsSome o)) s e (inl (refl, refl))
    (λ n r made. either (made_open s n c b e r made in_) (λ same. inl same) (λ exit. inr (exit, refl)))

-- over a list of events the section stays as it is, or has an exit
stays_or_exits : (s : State) (c b : ℕ) (es : List Event) → Holds s → begin_at s c ≡ Some b → Same c s (Laws.after s es) ⊎ HasExit s c es
stays_or_exits s c b [] on in_ = inl (refl, refl)
stays_or_exits s c b (e ∷ es) on in_ = either (stays_open s c b e in_)
    (λ same. either (stays_or_exits (Laws.after_event s e) c b es (after_keeps s (Events.step s e) on (step_keeps s e on)) (same.1 ∙ in_))
    (λ rest. inl (
      ap (λ (t : State). section_at t c) (after_more s e es) ∙ (rest.0 ∙ same.0),
      ap (λ (t : State). begin_at t c) (after_more s e es) ∙ (rest.1 ∙ same.1),
    ))
    (λ exits. inr (inr exits)))
    (λ exit. inr (inl exit))

pub ends_by_exit : (s : State) → Holds s → EndsByExit s
ends_by_exit s on c b later in_ moved = either (stays_or_exits s c b later on in_)
    (λ same.
    let odd = (on.sections.inside c b in_).0 in
    absurd (either moved (λ even. omega (arith, even, odd, same.0)) (λ off. off same.0)))
    (λ exits. exits)

pub grace_law : GraceLaw
grace_law z events fit = ends_by_exit (Laws.after (opening z) events) (every_run_keeps z events fit)

-- At rest the balance of each slot is its local references held.

pub vacant_number : (x : Slot) → Model.number_in x ≡ None → x ≡ Vacant
vacant_number x is = grind (arith, none-some)

-- what is held in the slot of n is what the model and the slots hold of n
held_same : (s : State) (n t : ℕ) → s.due ≡ Rest → Invariant.held_at s.locals s.hands s.keeps s.due n t ≡ Laws.held_of s n
held_same s n t rest = grind arith

entry_balanced : (s : State) (t : ℕ) (e : Entry) → Holds s → s.due ≡ Rest → IsIn e (slot_at s.slots t) → IsBalanced s t e.number
entry_balanced s t e on rest is = omega (arith, (on.balance.balance t e is).even, ap (Invariant.addition_due_at t) rest, ap (Invariant.is_adding_at t) rest, held_same s e.number t rest)

pub slot_balanced : (s : State) (t n : ℕ) → Holds s → at_rest s.due ≡ true → Laws.occupant_of s t ≡ Some n → IsBalanced s t n
slot_balanced s t n on rest is =
    let e = number_is (slot_at s.slots t) n is in
    subst (IsBalanced s t) e.2 (entry_balanced s t e.0 on (at_rest_tells s.due rest) e.1)

pub vacant_balanced : (s : State) (t : ℕ) → Holds s → t < s.settings.slots → Laws.occupant_of s t ≡ None → total_at s.totals t ≡ bias
vacant_balanced s t on lt is = on.balance.vacant t (omega (arith, lt, on.shape.slots)) (vacant_number (slot_at s.slots t) is)

emptied : (s : State) (c t : ℕ) (e : Entry) (b : Bool) → Holds s → slot_at s.slots t ≡ Retired e → (mark_at s.marks t c).collected ≡ b → (IsCounting s.slots s.marks c t → ⊥)
    → count_at s.counts c t ≡ 0
emptied s c t e true on gone is off = on.balance.emptied c t e gone is
emptied s c t e false on gone is off = absurd (off (e, inr (gone, is)))

pub balances_at_rest : (s : State) → Holds s → at_rest s.due ≡ true → BalancesAtRest s
balances_at_rest s on rest = record {
  balanced = λ t n is. slot_balanced s t n on rest is;
  vacant = λ t lt is. vacant_balanced s t on lt is;
  counted = on.balance.counted;
  emptied = λ c t e is off. either is (λ live. absurd (off (e, inl live))) (λ gone. emptied s c t e (mark_at s.marks t c).collected on gone refl off);
  beyond = on.balance.beyond;
  held = λ t n is. held_same s n t (at_rest_tells s.due rest);
}

pub balance_at_rest : BalanceAtRest
balance_at_rest z events fit = balances_at_rest (Laws.after (opening z) events) (every_run_keeps z events fit)

-- Safe reuse over runs, and drivers that outlive their interfaces.

after_holds : (s : State) (e : Event) → Holds s → Holds (Laws.after_event s e)
after_holds s e on = after_keeps s (Events.step s e) on (step_keeps s e on)

length_more : {X : Type 0} (xs ys : List X) → length xs ≤ length (xs ++ ys)
length_more [] ys = omega arith
length_more (x ∷ xs) ys = let more = length_more xs ys in omega (arith, more)

longer : (s : State) (e : Event) → Holds s → length s.history ≤ length (Laws.after_event s e).history
longer s e on =
    let grows = history_grows s e in
    subst (λ (h : List Change). length s.history ≤ length h) (sym grows.1) (length_more s.history grows.0)

never : (s : State) (es : List Event) (t n : ℕ) → Holds s → n ≤ length s.history → (Laws.occupant_of s t ≡ Some n → ⊥) → Laws.occupant_of (Laws.after s es) t ≡ Some n → ⊥
never s [] t n on old off is = off is
never s (e ∷ es) t n on old off is =
    let grows = longer s e on in
    never (Laws.after_event s e) es t n (after_holds s e on) (omega (arith, old, grows))
    (λ now. let c = comes s e t n on off now in omega (arith, c.2, old))
    (sym (ap (λ (k : State). Laws.occupant_of k t) (after_more s e es)) ∙ is)

-- an occupant's number is one of the history
numbered : (s : State) (t n : ℕ) → Holds s → Laws.occupant_of s t ≡ Some n → n ≤ length s.history
numbered s t n on is =
    let e = number_is _ n is in
    let at = (attached_in s.history s.slots t e.0 on.slots e.1).0 in
    let within = attached_within s.history e.0 at in
    omega (arith, within.1, e.2)

stays : (s : State) (e : Event) (t u d : ℕ) → Holds s → kept_at s.keeps t ≡ Some d → Laws.occupant_of s u ≡ Some d → Laws.occupant_of (Laws.after_event s e) u ≡ Some d
stays s e t u d on keeps is = either (goes_or_stays (Laws.occupant_of (Laws.after_event s e) u) d)
    (λ stays. stays)
    (λ off. absurd ((goes s e u d on is off).2.keeps t keeps))

throughout : (s : State) (es : List Event) (t u n d : ℕ) → Holds s → Laws.occupant_of s t ≡ Some n → kept_at s.keeps t ≡ Some d → Laws.occupant_of s u ≡ Some d → Laws.occupant_of (Laws.after s es) t ≡ Some n
    → (kept_at (Laws.after s es).keeps t ≡ Some d) × (Laws.occupant_of (Laws.after s es) u ≡ Some d)
throughout s [] t u n d on is keeps stands last = (keeps, stands)
throughout s (e ∷ es) t u n d on is keeps stands last =
    let then : State = Laws.after (Laws.after_event s e) es in
    let same : Laws.after s (e ∷ es) ≡ then = after_more s e es in
    let also : Laws.occupant_of then t ≡ Some n = sym (ap (λ (k : State). Laws.occupant_of k t) same) ∙ last in
    let grows = longer s e on in
    let old = numbered s t n on is in
    either (goes_or_stays (Laws.occupant_of (Laws.after_event s e) t) n)
    (λ now.
    let rest = throughout (Laws.after_event s e) es t u n d (after_holds s e on) now (keeps_same s e t n on is now ∙ keeps) (stays s e t u d on keeps stands) also in
    (ap (λ (k : State). kept_at k.keeps t) same ∙ rest.0, ap (λ (k : State). Laws.occupant_of k u) same ∙ rest.1))
    (λ off. absurd (never (Laws.after_event s e) es t n (after_holds s e on) (omega (arith, old, grows)) off also))

pub reuses_safely : (s : State) → Holds s → ReusesSafely s
reuses_safely s on = record {
  goes = λ event t n is off. goes s event t n on is off;
  comes = λ event t n off is. comes s event t n on off is;
  given = λ event t of allowed. given_vacant s event t on of allowed;
  never = λ later t n old off is. never s later t n on old off is;
}

pub outlive_interfaces : (s : State) → Holds s → OutliveInterfaces s
outlive_interfaces s on = record {
  keeps = λ t e is kind. rightly_some (kept_at s.keeps t) (ap (Events.keeps_rightly (kept_at s.keeps t)) (sym kind) ∙ on.kept_drivers.rightly t e is);
  stands = λ t d is. on.kept_drivers.drivers t d is;
  stays = λ event t u d keeps is. stays s event t u d on keeps is;
  same = λ event t n is now. keeps_same s event t n on is now;
  throughout = λ later t u n d is keeps stands last. throughout s later t u n d on is keeps stands last;
}

pub safe_reuse : SafeReuse
safe_reuse z events fit = reuses_safely (Laws.after (opening z) events) (every_run_keeps z events fit)

pub drivers_outlive : DriversOutlive
drivers_outlive z events fit = outlive_interfaces (Laws.after (opening z) events) (every_run_keeps z events fit)

-- The headline for the core.

-- a number that no slot has: nothing waits for the keeper
one_waits : (x : Slot) (n : ℕ) → ((e : Entry) → IsIn e x → e.number ≡ n → ⊥) → Invariant.one_if (has_number n x) ≡ 0
one_waits Vacant n off = refl
one_waits (Live e) n off = one_other e.number n (off e (inl refl))
one_waits (Retired e) n off = one_other e.number n (off e (inr refl))

none_waits : (slots : List Slot) (n : ℕ) (due : Due) → (Occupies slots n → ⊥) → Model.subtractions_due slots n due ≡ 0
none_waits slots n due off = grind (arith, one_waits)

none_passive : (s : State) (c n : ℕ) (o : Option ℕ) → slot_of s.slots n ≡ o → (Occupies s.slots n → ⊥) → Model.passive_in s.passive s.hands c o ≡ 0
none_passive s c n None is off = refl
none_passive s c n (Some t) is off = absurd (off (slot_occupied s.slots n t is))

-- an entry that has no slot any more is held by nothing
pub unheld_unoccupied : (s : State) (e : Entry) → Holds s → IsAttached s.history e → (Occupies s.slots e.number → ⊥) → IsUnheld (Model.picture s) e.number
unheld_unoccupied s e on attached off =
    let none = unoccupied s.settings.cpus s.slots s.hands s.keeps s.due s.locals e.number off on.references on.kept_drivers in
    record {
      sections = λ c b f in_ may same. off (f.slot, f, on.held c b f in_ may, same);
      passive = λ c. none_passive s c e.number (slot_of s.slots e.number) refl off;
      locals = omega (arith, no_standing e.number s.locals none.unplaced, no_hand e.number s.hands none.unhanded, none_waits s.slots e.number s.due off);
      keeps = none.unkept;
    }

-- an entry whose slot doesn't have it has none
elsewhere : (s : State) (e : Entry) → Holds s → IsAttached s.history e → (Laws.occupant_of s e.slot ≡ Some e.number → ⊥) → Occupies s.slots e.number → ⊥
elsewhere s e on attached off is = grind (arith, attached_in, one_entry, number_of)

destroyed : (s : State) (event : Event) (e : Entry) → Holds s → Laws.destroyed_slot event ≡ Some e.slot → IsAllowed s event → IsAttached s.history e → IsUnheld (Model.picture s) e.number
destroyed s event e on of allowed attached = either (goes_or_stays (Laws.occupant_of s e.slot) e.number)
    (λ is. (drained s e.slot e.number on (destroyed_drained s event e.slot of allowed) is).unheld)
    (λ off. unheld_unoccupied s e on attached (elsewhere s e on attached off))

given : (s : State) (event : Event) (e : Entry) → Holds s → Laws.given_slot event ≡ Some e.slot → IsAllowed s event → IsAttached s.history e → IsUnheld (Model.picture s) e.number
given s event e on of allowed attached =
    unheld_unoccupied s e on attached (elsewhere s e on attached (λ is. none-some e.number (sym (given_vacant s event e.slot on of allowed) ∙ is)))

pub is_safe : (s : State) → Holds s → IsSafe s
is_safe s on = record {
  destroyed = λ event e of allowed attached. destroyed s event e on of allowed attached;
  given = λ event e of allowed attached. given s event e on of allowed attached;
  balanced = λ rest t n is. slot_balanced s t n on rest is;
  vacant = λ rest t lt is. vacant_balanced s t on lt is;
  answered = λ event o answer is reply. answers_lawful s event o answer on is reply;
  begun = λ event c q is. search_begun s event c q is;
}

pub headline : Headline
headline z events fit = is_safe (Laws.after (opening z) events) (every_run_keeps z events fit)

-- All laws of a state with the invariant.

pub obeys_laws : (s : State) → Holds s → ObeysLaws s
obeys_laws s on = record {
  safe = is_safe s on;
  reuse = reuses_safely s on;
  drivers = outlive_interfaces s on;
  answers = answers_lawfully s on;
  fresh = answers_freshly s on;
  whole = sees_all s on;
  live = recalls_live s on;
  newest = recalls_newest s on;
  replaces = replaces_at_once s on;
  balance = λ rest. balances_at_rest s on rest;
  grace = ends_by_exit s on;
  keeps = λ later. ran_keeps (Model.empty_run s) later on;
  modelled = λ later. ran_refines (Model.empty_run s) later on;
}

pub invariant_suffices : InvariantSuffices
invariant_suffices s on = obeys_laws s on
