-- The ledger of changes: what weighs as much as one change, how a CPU's share grows, and a CPU that has a share.
use Rattle.std.proofs.Common.{leb-true, ◌≡◌, ◌*◌, ◌<◌, ◌≤◌, List, [], ◌∷◌, refl, arith, ◌∙◌, ⊎_elim, ℕ, zero, suc, ◌+◌, Bool, true, false, length, Option, Result, Ok, Err, sym, ap, subst}
use Rattle.std.proofs.lemmas.List.Sums.{sum_by-cons}
use Rattle.name_registry.specs.Types.{Change, Attach, Detach, Replace, MOST_CHANGES, Entry, Record, Refusal, Settings, Stage, Grace, Passive, Local, Freed, Key, MOST_SLOTS, KeeperView, ReferenceView, KeptSlot, Room}
use Rattle.registry_values.specs.Common.{is_iface, is_retired_as, slot_at}
use Rattle.registry_values.specs.Answers as answers
use Rattle.registry_values.proofs.Answers.{attach_tells}
use Rattle.registry_values.proofs.Fit.{ranges}
use Rattle.passive_list.specs.Common.{OnCpu, IsOurKeeper, OnKeeper, HasHeardOn}
use Rattle.passive_list.proofs.Sharing.{sharing}
use Rattle.local_count.specs.Draining.{HasFreed}
use Rattle.name_registry.specs.Common.{WeightsTell, number_of, unit, weigh, weight, attach_answer, attach_iface_answer, given_entry, HasMade, IsDetachAnswer, HasLearned, HasSeenAttach, HasSeenDetach, keeper_after_hear, is_inside, HasAttachedFor, HasAttachedIfaceFor, HasDetachedFor, HasReplacedFor, HasReplacedIfaceFor, HasSeenReplace, IsReplaceAnswer, HasGivenUpFor, first_fit, fit_slot, room_of}
use Rattle.name_registry.specs.Changes.{AreAlike}
use Rattle.name_registry.specs.Performing
use Rattle.name_registry.specs.Destroying
use Rattle.name_registry.proofs.Passed.{OnlyLooked, snapshots_look, glances_look}
use Rattle.name_registry.proofs.Attached.{given_takes}
use Rattle.name_registry.proofs.Replaced.{fit_tells}

-- The law of the weights: changes that weigh as much as one are one, and like it.

-- what one change weighs
weighs : (c : Change) → unit ≤ weight c
weighs (Attach e) = omega arith
weighs (Detach n) = omega arith
weighs (Replace n r e) = omega arith

light : (c : Change) → number_of c ≤ MOST_CHANGES → weight c < 2 * unit
light (Attach e) le = omega (arith, le)
light (Detach n) le = omega (arith, le)
light (Replace n r e) le = omega (arith, le)

alike : (d c : Change) → weight d ≡ weight c → AreAlike d c
alike (Attach e) (Attach f) same = omega (arith, same)
alike (Attach e) (Detach n) same = absurd (omega (arith, same))
alike (Attach e) (Replace n r f) same = absurd (omega (arith, same))
alike (Detach n) (Attach e) same = absurd (omega (arith, same))
alike (Detach n) (Detach m) same = omega (arith, same)
alike (Detach n) (Replace m r e) same = absurd (omega (arith, same))
alike (Replace n r e) (Attach f) same = absurd (omega (arith, same))
alike (Replace n r e) (Detach m) same = absurd (omega (arith, same))
alike (Replace n r e) (Replace m s f) same = omega (arith, same)

one_alone : (h : List Change) (c : Change) → number_of c ≤ MOST_CHANGES → weigh h ≡ weight c → (d : Change) × (h ≡ d ∷ []) × AreAlike d c
one_alone [] c le same = let some = weighs c in absurd (omega (arith, same, some))
one_alone (d ∷ []) c le same = (d, refl, alike d c (let only = sum_by-cons weight d [] in omega (arith, same, only)))
one_alone (d ∷ (f ∷ h)) c le same =
    let most = light c le in absurd (omega (arith, same, sum_by-cons weight d (f ∷ h), sum_by-cons weight f h, weighs d, weighs f, most))

none : (h : List Change) → weigh h ≡ 0 → h ≡ []
none [] same = refl
none (d ∷ h) same = let all = sum_by-cons weight d h in let some = weighs d in absurd (omega (arith, same, all, some))

pub weights_tell : WeightsTell
weights_tell = record {
  one = λ x y c h has sum. one_alone h c has.number (let made = has.made in omega (arith, made, sum));
  none = none;
}

-- What is counted in the ledger: the history and a CPU's share grow by the same change, and nothing else changes the history.

-- The share

pub attach_counted : (x y z : OnCpu) (e : Entry) (n : ℕ) → z ≡ record y { made = n } → HasLearned x y × HasSeenAttach x y e → HasLearned x z × HasSeenAttach x z e
attach_counted x y z e n is has = subst (λ (o : OnCpu). HasLearned x o × HasSeenAttach x o e) (sym is) (assumption (ap (λ (o : OnCpu). record o { made = n }) has.0.is))

pub detach_counted : (x y z : OnCpu) (e : Entry) (n : ℕ) → z ≡ record y { made = n } → HasLearned x y × HasSeenDetach x y e → HasLearned x z × HasSeenDetach x z e
detach_counted x y z e n is has = subst (λ (o : OnCpu). HasLearned x o × HasSeenDetach x o e) (sym is) (assumption (ap (λ (o : OnCpu). record o { made = n }) has.0.is), search (has.1.later, has.1.ends, has.1.attached, has.1.log))

pub replace_counted : (x y z : OnCpu) (f e : Entry) (n : ℕ) → z ≡ record y { made = n } → HasLearned x y × HasSeenReplace x y f e → HasLearned x z × HasSeenReplace x z f e
replace_counted x y z f e n is has =
    subst (λ (o : OnCpu). HasLearned x o × HasSeenReplace x o f e) (sym is)
    (assumption (ap (λ (o : OnCpu). record o { made = n }) has.0.is), search (has.1.later, has.1.ends, has.1.attached, has.1.before, has.1.alike, has.1.log))

-- it made exactly the change that was counted
pub one_made : (note : List Change) (x y z : OnCpu) (c : Change) → number_of c ≤ MOST_CHANGES → HasHeardOn note x y → z ≡ record y { made = y.made + weight c } → HasMade x c z
one_made note x y z c le hears is = record { number = le; made = ap (λ (o : OnCpu). o.made) is ∙ ap (λ (o : OnCpu). o.made + weight c) hears.is }

-- The numbers

-- an attach is within the limit on changes
attach_within : (z : Settings) (k : OnKeeper) (rec : Record) (inside unfit : Bool) (e : Entry) → z.change_limit ≤ MOST_CHANGES → answers.attach_answer inside unfit (given_entry z k rec) ≡ Ok e
    → e.number ≤ MOST_CHANGES
attach_within z k rec inside unfit e most is =
    let takes = given_takes z k rec e (attach_tells inside unfit (given_entry z k rec) e is).2 in
    let room = takes.room in omega (arith, ap (λ (x : Entry). x.number) takes.entry, room, most)

pub attach_numbered : (z : Settings) (k : OnKeeper) (x : OnCpu) (rec : Record) (e : Entry) → z.change_limit ≤ MOST_CHANGES → Ok e ≡ attach_answer z k x rec → e.number ≤ MOST_CHANGES
attach_numbered z k x rec e most is = attach_within z k rec (is_inside x) (is_iface rec.kind) e most (sym is)

pub iface_numbered : (z : Settings) (k : OnKeeper) (x : OnCpu) (rec : Record) (v : ReferenceView) (e : Entry) → z.change_limit ≤ MOST_CHANGES → attach_iface_answer z k x rec v ≡ Ok e → e.number ≤ MOST_CHANGES
iface_numbered z k x rec v e most is = attach_within z k rec (is_inside x) (is_iface v.entry.rec.kind) e most is

pub detach_numbered : (k : OnKeeper) (x : OnCpu) (key : Key) (e : Entry) → length k.view.history ≤ MOST_CHANGES → IsDetachAnswer k x key (Ok e) → e.number ≤ MOST_CHANGES
detach_numbered k x key e short answer = let begun = answer.1.0.begun in omega (arith, begun, short)

slot_within : (fit : Option ℕ) (room : Room) (t : ℕ) → fit_slot fit room ≡ Ok t → room.changes + 2 ≤ room.limit
slot_within fit room t is = let fits = leb-true _ _ (fit_tells fit room t is).1 in omega (arith, fits)

pub replace_numbered : (z : Settings) (k : OnKeeper) (x : OnCpu) (unfit : Bool) (key : Key) (value : ℕ) (p : Entry × Entry) → z.change_limit ≤ MOST_CHANGES
    → IsReplaceAnswer z k x unfit key value (Ok p) → p.1.number ≤ MOST_CHANGES
replace_numbered z k x unfit key value p most is =
    let room = slot_within (first_fit k) (room_of z k) p.1.slot is.3 in
    omega (arith, room, most, ap (λ (i : Entry). i.number) is.4)

-- what the keeper's type keeps of that
pub few_changes : (a : Settings) (k : KeeperView) (rows : List KeptSlot) (n : ℕ) → IsOurKeeper a k rows n → (a.change_limit ≤ MOST_CHANGES) × (length k.history ≤ MOST_CHANGES)
few_changes a k rows n our =
    let most = (ranges a our.view.fit).changes in
    let room = our.view.room in (most, omega (arith, most, room))

-- Calls that make no change

abbrev Unchanged : OnKeeper → OnKeeper → Type 0
Unchanged a b = b.view.history ≡ a.view.history

-- a book that is as it was is the history's still
pub still_booked : (total : ℕ) (a b : OnKeeper) → total ≡ weigh a.view.history → b.view.history ≡ a.view.history → total ≡ weigh b.view.history
still_booked total a b was same = was ∙ sym (ap weigh same)

worked_same : (a : OnKeeper) (t : ℕ) (b : OnKeeper) → Destroying.HasWorkedFor a t b → Unchanged a b
worked_same a t b has = ap (λ (k : KeeperView). k.history) has.only

freed_same : (a : OnKeeper) (t : ℕ) (b : OnKeeper) → HasFreed a t b → Unchanged a b
freed_same a t b has = ap (λ (k : KeeperView). k.history) has.view.2

ended_same : (m : OnKeeper) (t : ℕ) (b : OnKeeper) → Destroying.HasEnded m t b → Unchanged m b
ended_same m t b ended = ⊎_elim (λ e. ap (λ (k : KeeperView). k.history) e.1.view) (freed_same m t b) ended

meets_same : (a : OnKeeper) (t : ℕ) (stage : Stage) (b : OnKeeper) → Destroying.Meets a t stage b → Unchanged a b
meets_same a t (Grace c) b has = worked_same a t b has.leaves.worked
meets_same a t (Passive c) b has = worked_same a t b has.leaves.worked
meets_same a t (Local n) b has = worked_same a t b has.leaves
meets_same a t (Freed u) b has = ended_same has.1.between t b has.1.ended ∙ worked_same a t has.1.between has.1.leaves

pub advanced_same : (a : OnKeeper) (n : ℕ) (r : Result Stage Refusal) (b : OnKeeper) → Destroying.HasAdvanced a n r b → Unchanged a b
advanced_same a n (Ok stage) b has = meets_same a has.0 stage b has.2
advanced_same a n (Err f) b has = ap (λ (k : OnKeeper). k.view.history) has.2

pub advanced_for_same : (z : Settings) (a : OnKeeper) (x : OnCpu) (n : ℕ) (r : Result Stage Refusal) (b : OnKeeper) (y : OnCpu) → Destroying.HasAdvancedFor z a x n r b y → Unchanged a b
advanced_for_same z a x n r b y has = ap (λ (k : OnKeeper). k.view.history) has.is ∙ advanced_same (keeper_after_hear a x) n r has.end has.made

-- a hold whose looks leave the history
hold_same : (looks : Performing.Looking → Performing.Looking → Type 0) (a : OnKeeper) (x : OnCpu) (b : OnKeeper) (y : OnCpu) → ((k l : Performing.Looking) → looks k l → OnlyLooked k.view l.view) → Performing.Hold looks a x b y → Unchanged a b
hold_same looks a x b y only has = ap (λ (k : KeeperView). k.history) has.view ∙ ap (λ (k : KeeperView). k.history) (only _ has.end has.made)

pub begun_same : (z : Settings) (a : OnKeeper) (x : OnCpu) (snapshots retired : List ℕ) (b : OnKeeper) (y : OnCpu) → Performing.HasBegun z a x snapshots retired b y → Unchanged a b
begun_same z a x snapshots retired b y has = hold_same (Performing.SnapshotsBelow snapshots z.cpus) a x b y (λ k l is. snapshots_look snapshots z.cpus k l is) has.hold

pub glanced_same : (z : Settings) (snapshots : List ℕ) (a : OnKeeper) (x : OnCpu) (seen : List Bool) (told : Option ℕ) (after : List Bool) (b : OnKeeper) (y : OnCpu)
    → Performing.HasGlanced z snapshots a x seen told after b y → Unchanged a b
glanced_same z snapshots a x seen told after b y has = hold_same (Performing.GlancesBelow snapshots seen after z.cpus) a x b y (λ k l is. glances_look snapshots seen after z.cpus k l is) has.hold

passes_if_same : (still : Bool) (z : Settings) (a : OnKeeper) (t : ℕ) (b : OnKeeper) → Performing.PassesIf still z a t b → Unchanged a b
passes_if_same true z a t b has = worked_same a t b has.leaves.worked
passes_if_same false z a t b is = ap (λ (k : OnKeeper). k.view.history) is

passes_entry_same : (z : Settings) (a : OnKeeper) (t n : ℕ) (b : OnKeeper) → Performing.PassesEntry z a t n b → Unchanged a b
passes_entry_same z a t n b is = passes_if_same (is_retired_as n (slot_at a.slots t)) z a t b is

passes_same : (z : Settings) (numbers : List ℕ) (n : ℕ) (a b : OnKeeper) → Performing.PassesBelow z numbers n a b → Unchanged a b
passes_same z numbers zero a b is = ap (λ (k : OnKeeper). k.view.history) is
passes_same z numbers (suc n) a b is = passes_entry_same z is.0 n _ b is.2 ∙ passes_same z numbers n a is.0 is.1

pub passed_same : (z : Settings) (a : OnKeeper) (x : OnCpu) (numbers : List ℕ) (b : OnKeeper) (y : OnCpu) → Performing.HasPassedAll z a x numbers b y → Unchanged a b
passed_same z a x numbers b y has = ap (λ (k : OnKeeper). k.view.history) has.is ∙ passes_same z numbers MOST_SLOTS (keeper_after_hear a x) has.end has.passes

-- A CPU that has a share of a ledger, and the CPU without it: what is told of the one is told of the other.

heard : (m : ℕ) (h : List Change) (x y : OnCpu) → HasHeardOn h x y → HasHeardOn h (sharing m x) (sharing m y)
heard m h x y had = assumption (ap (sharing m) had.is)

hold : (m : ℕ) (looks : Performing.Looking → Performing.Looking → Type 0) (a : OnKeeper) (x : OnCpu) (b : OnKeeper) (y : OnCpu) → Performing.Hold looks a x b y → Performing.Hold looks a (sharing m x) b (sharing m y)
hold m looks a x b y had = search (had.known, had.seen, had.made, had.view, had.slots, had.log, heard m _ x y had.hears, had.told, had.cpu_log)

pub begun : (m : ℕ) (z : Settings) (a : OnKeeper) (x : OnCpu) (snapshots retired : List ℕ) (b : OnKeeper) (y : OnCpu) → Performing.HasBegun z a x snapshots retired b y
    → Performing.HasBegun z a (sharing m x) snapshots retired b (sharing m y)
begun m z a x snapshots retired b y had = record { own = had.own; hold = hold m _ a x b y had.hold; numbers = had.numbers }

pub glanced : (m : ℕ) (z : Settings) (snapshots : List ℕ) (a : OnKeeper) (x : OnCpu) (seen : List Bool) (told : Option ℕ) (after : List Bool) (b : OnKeeper) (y : OnCpu)
    → Performing.HasGlanced z snapshots a x seen told after b y
    → Performing.HasGlanced z snapshots a (sharing m x) seen told after b (sharing m y)
glanced m z snapshots a x seen told after b y had = record { hold = hold m _ a x b y had.hold; least = had.least }

pub passed : (m : ℕ) (z : Settings) (a : OnKeeper) (x : OnCpu) (numbers : List ℕ) (b : OnKeeper) (y : OnCpu) → Performing.HasPassedAll z a x numbers b y
    → Performing.HasPassedAll z a (sharing m x) numbers b (sharing m y)
passed m z a x numbers b y had = record { known = had.known; end = had.end; passes = had.passes; own = had.own; is = had.is; hears = heard m _ x y had.hears; told = had.told; cpu_log = had.cpu_log }

pub attached : (m : ℕ) (a : OnKeeper) (x : OnCpu) (e : Entry) (b : OnKeeper) (y : OnCpu) → HasAttachedFor a x e b y → HasAttachedFor a (sharing m x) e b (sharing m y)
attached m a x e b y had = assumption (heard m _ x y had.cpu)

pub iface_attached : (m : ℕ) (a : OnKeeper) (x : OnCpu) (v : ReferenceView) (e : Entry) (b : OnKeeper) (y : OnCpu) → HasAttachedIfaceFor a x v e b y
    → HasAttachedIfaceFor a (sharing m x) v e b (sharing m y)
iface_attached m a x v e b y had = assumption (heard m _ x y had.cpu)

pub detached : (m : ℕ) (a : OnKeeper) (x : OnCpu) (e : Entry) (b : OnKeeper) (y : OnCpu) → HasDetachedFor a x e b y → HasDetachedFor a (sharing m x) e b (sharing m y)
detached m a x e b y had =
    let own : HasSeenDetach (sharing m x) (sharing m y) e = search (had.own.later, had.own.ends, had.own.attached, had.own.log) in
    assumption (own, heard m _ x y had.cpu)

seen_replaced : (m : ℕ) (x y : OnCpu) (f e : Entry) → HasSeenReplace x y f e → HasSeenReplace (sharing m x) (sharing m y) f e
seen_replaced m x y f e own = search (own.later, own.ends, own.attached, own.before, own.alike, own.log)

pub replaced : (m : ℕ) (a : OnKeeper) (x : OnCpu) (f e : Entry) (b : OnKeeper) (y : OnCpu) → HasReplacedFor a x f e b y → HasReplacedFor a (sharing m x) f e b (sharing m y)
replaced m a x f e b y had = assumption (seen_replaced m x y f e had.own, heard m _ x y had.cpu)

pub iface_replaced : (m : ℕ) (a : OnKeeper) (x : OnCpu) (v : ReferenceView) (f e : Entry) (b : OnKeeper) (y : OnCpu) → HasReplacedIfaceFor a x v f e b y
    → HasReplacedIfaceFor a (sharing m x) v f e b (sharing m y)
iface_replaced m a x v f e b y had = assumption (seen_replaced m x y f e had.own, heard m _ x y had.cpu)

pub advanced : (m : ℕ) (z : Settings) (a : OnKeeper) (x : OnCpu) (n : ℕ) (answer : Result Stage Refusal) (b : OnKeeper) (y : OnCpu) → Destroying.HasAdvancedFor z a x n answer b y
    → Destroying.HasAdvancedFor z a (sharing m x) n answer b (sharing m y)
advanced m z a x n answer b y had = search (had.known, had.seen, had.own, had.made, had.own_end, had.is, heard m _ x y had.hears, had.told, had.cpu_log)

pub given_up : (m : ℕ) (a : OnKeeper) (x : OnCpu) (v : ReferenceView) (b : OnKeeper) (y : OnCpu) → HasGivenUpFor a x v b y → HasGivenUpFor a (sharing m x) v b (sharing m y)
given_up m a x v b y had =
    record { known = had.known; end = had.end; given = had.given; is = had.is; hears = heard m _ x y had.hears; told = had.told; cpu_log = had.cpu_log }
