-- What a caller's CPU notes, has seen and keeps of a call through the lock, though nothing is known of the keeper.
use Rattle.std.proofs.Common.{◌≡◌, ◌∙◌, All, List, ◌++◌, inl, inr, refl, ap, append_assoc, Option, Some, None, ℕ, suc, length, sym, arith, ◌⊎◌, ⊎_elim, zero, ◌<◌, Bool, true, false, if◌then◌else◌, Result, Ok, Err, IfOk, IfErr, IfSome, subst}
use Rattle.std.proofs.lemmas.List.Elements.{All-cons}
use mathlib.Core.List.{IsPrefix}
use Rattle.name_registry.specs.Types.{Change, Tell, Done, Teller, Attach, Detach, Replace, Entry, Room, Record, Refusal, NameTaken, NoSlot, HistoryFull, Inside, NeedsDriver, Settings, Key, ReferenceView, SectionsSpent, StillHeld, Waiting, NoMemory, NotFound, NotRetired}
use Rattle.registry_values.specs.declared.refusal.Refusal.TheVariants.{BadSettings, NothingFound, PassiveFull, WrongCpu, NotHeld, LocalFull, MissingCpu, TooDeep}
use Rattle.registry_values.specs.Common.{entry_in, has_room, next_entry, wait_answer, least_below, or_next, key_of, key_of_record, is_iface, is_taken}
use Rattle.registry_values.specs.Answers as answers
use Rattle.registry_values.proofs.Answers.{attach_tells, given_tells}
use Rattle.protocol.specs.Common.{after_change, brought_by, ended_by, IsAttached}
use Rattle.protocol.specs.History.{change_at}
use Rattle.protocol.proofs.History.{at_new, attached_old, at_within, at_prefix}
use Rattle.cpu_words.specs.Common.{has_heard_from, log_item}
use Rattle.cpu_words.proofs.shown.Seeing.{attached_prefix}
use Rattle.passive_list.specs.Common.{OnCpu, HasHeardOn, cpu_after_tell, has_heard, has_told, HeardAndTold, GoesOnBy, OnKeeper}
use Rattle.passive_list.proofs.Rows.{one_item}
use Rattle.passive_list.proofs.Walking.{prefix_length}
use Rattle.name_registry.specs.Common.{IsNote, tells_and_hears, tells_twice_and_hears, HasSeenAttach, HasSeenDetach, HasSeenReplace, AreReplaced, IsReplaceAnswer, IsReplaceRefusalOf, attach_answer, attach_iface_answer, given_entry, first_fit, room_of, HasAttachedFor, HasAttachedIfaceFor, IsDetachAnswer, HasDetachedFor, MayAttach, is_inside, HasLearned}
use Rattle.name_registry.specs.Locking

-- A CPU's own log in a hold of the interlock: notes alone.

-- the CPU x told, then it is n, and then it heard
pub met : (x n y : OnCpu) → n ≡ cpu_after_tell x → y.log ≡ n.log ++ has_heard n None → y.log ≡ x.log ++ tells_and_hears x
met x n y told heard = heard ∙ ap (λ (o : OnCpu). o.log ++ has_heard o None) told ∙ append_assoc x.log (has_told x) (has_heard x None)

-- it told twice
pub met_again : (x m n y : OnCpu) → m ≡ cpu_after_tell x → n ≡ cpu_after_tell m → y.log ≡ n.log ++ has_heard n None → y.log ≡ x.log ++ tells_twice_and_hears x
met_again x m n y first second heard =
    heard ∙ ap (λ (o : OnCpu). o.log ++ has_heard o None) second ∙ ap (λ (o : OnCpu). (o.log ++ has_told o) ++ has_heard o None) first
    ∙ append_assoc (x.log ++ has_told x) (has_told x) (has_heard x None) ∙ append_assoc x.log (has_told x) (has_told x ++ has_heard x None)

-- that it told before changes nothing of what it heard
pub heard_told : (h : List Change) (x y : OnCpu) → HasHeardOn h (cpu_after_tell x) y → HasHeardOn h x y
heard_told h x y had = record { told = had.told; pass = had.pass; known_log = had.known_log; is = had.is }

pub heard_told_again : (h : List Change) (x y : OnCpu) → HasHeardOn h (cpu_after_tell (cpu_after_tell x)) y → HasHeardOn h x y
heard_told_again h x y had = heard_told h x y (heard_told h (cpu_after_tell x) y had)

-- Notes alone

heard_last : (x : OnCpu) (h : Option Teller) → All (IsNote x.view.id) (has_told x ++ has_heard x h)
heard_last x h = All-cons (IsNote x.view.id) (log_item (Tell (Some x.view.id)) Done) (has_heard x h) (inl refl) (one_item (IsNote x.view.id) (has_heard_from (Some x.view.id) h) (inr (h, refl)))

pub by_meeting : (x y : OnCpu) → y.log ≡ x.log ++ tells_and_hears x → GoesOnBy (IsNote x.view.id) x.log y.log
by_meeting x y is = record { since = tells_and_hears x; are = is; only = heard_last x None }

pub by_meeting_again : (x y : OnCpu) → y.log ≡ x.log ++ tells_twice_and_hears x → GoesOnBy (IsNote x.view.id) x.log y.log
by_meeting_again x y is =
    record { since = tells_twice_and_hears x; are = is; only = All-cons (IsNote x.view.id) (log_item (Tell (Some x.view.id)) Done) (has_told x ++ has_heard x None) (inl refl) (heard_last x None) }

-- a note was passed on: heard and told
pub by_passing : (x y : OnCpu) → HeardAndTold x y → GoesOnBy (IsNote x.view.id) x.log y.log
by_passing x y is = record {
  since = has_heard x is.0 ++ has_told x;
  are = is.1 ∙ append_assoc x.log (has_heard x is.0) (has_told x);
  only = All-cons (IsNote x.view.id) (has_heard_from (Some x.view.id) is.0) (has_told x) (inr (is.0, refl)) (one_item (IsNote x.view.id) (log_item (Tell (Some x.view.id)) Done) (inl refl));
}

-- What the caller's CPU has seen once it heard the whole history.

-- a change of the history is in a pass that has it as a prefix
change_on : (h p : List Change) (k : ℕ) (x : Change) → IsPrefix h p → change_at h k ≡ Some x → change_at p k ≡ Some x
change_on h p k x pre at = ap (λ (l : List Change). change_at l k) (sym pre.1) ∙ (at_prefix h pre.0 k (at_within h k x at).1 ∙ at)

pub seen_attach : (h : List Change) (x y : OnCpu) (e : Entry) → IsPrefix x.view.pass h → e.number ≡ suc (length h) → IsPrefix (after_change h (Attach e)) y.view.pass
    → y.log ≡ x.log ++ tells_and_hears x → HasSeenAttach x y e
seen_attach h x y e before number told log =
    record {
      later = omega (arith, prefix_length x.view.pass h before, number);
      attached = ap brought_by (change_on (after_change h (Attach e)) y.view.pass e.number (Attach e) told (ap (change_at (after_change h (Attach e))) number ∙ at_new h (Attach e)));
      log = log;
    }

pub seen_detach : (h : List Change) (x y : OnCpu) (e : Entry) → IsPrefix x.view.pass h → IsAttached h e → IsPrefix (after_change h (Detach e.number)) y.view.pass → y.log ≡ x.log ++ tells_and_hears x
    → HasSeenDetach x y e
seen_detach h x y e before attached told log =
    let after = after_change h (Detach e.number) in
    record {
      end = suc (length h);
      later = omega (arith, prefix_length x.view.pass h before);
      ends = ap ended_by (change_on after y.view.pass (suc (length h)) (Detach e.number) told (at_new h (Detach e.number)));
      attached = attached_prefix after y.view.pass e told (attached_old h (Detach e.number) e attached);
      log = log;
    }

pub seen_replace : (h : List Change) (x y : OnCpu) (f e : Entry) (r : ℕ) → IsPrefix x.view.pass h → IsAttached h f → e.number ≡ suc (length h) → key_of e ≡ key_of f
    → IsPrefix (after_change h (Replace f.number r e)) y.view.pass → y.log ≡ x.log ++ tells_and_hears x → HasSeenReplace x y f e
seen_replace h x y f e r before attached number alike told log =
    let c : Change = Replace f.number r e in
    let after = after_change h c in
    let at : change_at y.view.pass e.number ≡ Some c = change_on after y.view.pass e.number c told (ap (change_at after) number ∙ at_new h c) in
    record {
      later = omega (arith, prefix_length x.view.pass h before, number);
      ends = ap ended_by at;
      attached = ap brought_by at;
      before = attached_prefix after y.view.pass f told (attached_old h c f attached);
      alike = alike;
      log = log;
    }

-- What a caller keeps of a call through the lock, though nothing is known of the keeper.

pub learned : (note : List Change) (x y : OnCpu) → HasHeardOn note x y → GoesOnBy (IsNote x.view.id) x.log y.log → HasLearned x y
learned note x y has log =
    let note_is = ap (λ (o : OnCpu). o.view.noted_pass) has.is in
    let made_is = ap (λ (o : OnCpu). o.made) has.is in
    let heard : y ≡ record x { view = record x.view { pass = y.view.pass; noted_pass = y.view.noted_pass }; known_log = y.known_log; log = y.log } =
    subst (λ (l : List Change). y ≡ record x { view = record x.view { pass = y.view.pass; noted_pass = l }; known_log = y.known_log; log = y.log }) (sym note_is) has.is in
    assumption (log, subst (λ (n : ℕ). y ≡ record x { view = record x.view { pass = y.view.pass; noted_pass = y.view.noted_pass }; made = n; known_log = y.known_log; log = y.log }) (sym made_is) heard)

-- Attaching

-- the refusals that hang on the keeper
abbrev IsGivenRefusal : Refusal → Type 0
IsGivenRefusal f = (f ≡ NameTaken) ⊎ ((f ≡ NoSlot) ⊎ (f ≡ HistoryFull))

by_room : (room : Bool) (e : Entry) (f : Refusal) → ◌≡◌ {A = Result Entry Refusal} (if room then Ok e else Err HistoryFull) (Err f) → IsGivenRefusal f
by_room true e f is = absurd (let q : ◌≡◌ {A = Result Entry Refusal} (Ok e) (Err f) = is in cc)
by_room false e f is = inr (inr (let q : ◌≡◌ {A = Result Entry Refusal} (Err HistoryFull) (Err f) = is in cc))

by_slot : (fit : Option ℕ) (room : Room) (rec : Record) (f : Refusal) → entry_in fit room rec ≡ Err f → IsGivenRefusal f
by_slot None room rec f is = inr (inl (let q : ◌≡◌ {A = Result Entry Refusal} (Err NoSlot) (Err f) = is in cc))
by_slot (Some t) room rec f is = by_room (has_room room) (next_entry room.changes rec t) f is

by_name : (taken : Bool) (fit : Option ℕ) (room : Room) (rec : Record) (f : Refusal) → answers.given_entry taken fit room rec ≡ Err f → IsGivenRefusal f
by_name true fit room rec f is = inl (let q : ◌≡◌ {A = Result Entry Refusal} (Err NameTaken) (Err f) = is in cc)
by_name false fit room rec f is = by_slot fit room rec f is

given_refused : (z : Settings) (k : OnKeeper) (rec : Record) (f : Refusal) → given_entry z k rec ≡ Err f → IsGivenRefusal f
given_refused z k rec f is = by_name (is_taken (key_of_record rec) k.slots) (first_fit k) (room_of z k) rec f is

refusal_is : (f r : Refusal) → f ≡ r → Locking.IsAttachRefusal false false r → Locking.IsAttachRefusal false false f
refusal_is f r is refusal = subst (Locking.IsAttachRefusal false false) (sym is) refusal

given_refusal : (f : Refusal) → IsGivenRefusal f → Locking.IsAttachRefusal false false f
given_refusal f is = ⊎_elim (λ e. refusal_is f _ e (refl, refl)) (λ or. ⊎_elim (λ e. refusal_is f _ e (refl, refl)) (λ e. refusal_is f _ e (refl, refl)) or) is

entry_refusal : (inside unfit : Bool) (given : Result Entry Refusal) (f : Refusal) → ((r : Refusal) → given ≡ Err r → IsGivenRefusal r) → answers.attach_answer inside unfit given ≡ Err f
    → Locking.IsAttachRefusal inside unfit f
entry_refusal true unfit given f by is = let q : ◌≡◌ {A = Result Entry Refusal} (Err Inside) (Err f) = is in let e : Inside ≡ f = cc in subst (λ (r : Refusal). Locking.IsAttachRefusal true unfit r) e refl
entry_refusal false true given f by is =
    let q : ◌≡◌ {A = Result Entry Refusal} (Err NeedsDriver) (Err f) = is in let e : NeedsDriver ≡ f = cc in subst (λ (r : Refusal). Locking.IsAttachRefusal false true r) e (refl, refl)
entry_refusal false false given f by is = given_refusal f (by f is)

entry_may : (inside unfit : Bool) (given : Result Entry Refusal) (e : Entry) → answers.attach_answer inside unfit given ≡ Ok e → MayAttach inside unfit
entry_may inside unfit given e is = let told = attach_tells inside unfit given e is in (told.0, told.1)

-- the entry is of the record
entry_rec : (z : Settings) (k : OnKeeper) (rec : Record) (inside unfit : Bool) (e : Entry) → answers.attach_answer inside unfit (given_entry z k rec) ≡ Ok e → e.rec ≡ rec
entry_rec z k rec inside unfit e is =
    let given = (attach_tells inside unfit (given_entry z k rec) e is).2 in
    ap (λ (x : Entry). x.rec) (given_tells (is_taken (key_of_record rec) k.slots) (first_fit k) (room_of z k) rec e given).entry

pub attach_may : (z : Settings) (k : OnKeeper) (x : OnCpu) (rec : Record) (r : Result Entry Refusal) → r ≡ attach_answer z k x rec → IfOk r (λ _. MayAttach (is_inside x) (is_iface rec.kind))
attach_may z k x rec (Ok e) is = entry_may (is_inside x) (is_iface rec.kind) (given_entry z k rec) e (sym is)
attach_may z k x rec (Err f) is = tt

pub attach_owned : (z : Settings) (k b : OnKeeper) (x y : OnCpu) (rec : Record) (r : Result Entry Refusal) → r ≡ attach_answer z k x rec → IfOk r (λ e. HasAttachedFor k x e b y)
    → IfOk r (λ e. (e.rec ≡ rec) × HasLearned x y × HasSeenAttach x y e)
attach_owned z k b x y rec (Ok e) is has = (entry_rec z k rec (is_inside x) (is_iface rec.kind) e (sym is), learned b.view.history x y has.cpu (by_meeting x y has.own.log), has.own)
attach_owned z k b x y rec (Err f) is has = tt

pub iface_may : (z : Settings) (k : OnKeeper) (x : OnCpu) (rec : Record) (v : ReferenceView) (r : Result Entry (Refusal × ReferenceView)) → IfOk r (λ e. attach_iface_answer z k x rec v ≡ Ok e)
    → IfOk r (λ _. MayAttach (is_inside x) (is_iface v.entry.rec.kind))
iface_may z k x rec v (Ok e) is = entry_may (is_inside x) (is_iface v.entry.rec.kind) (given_entry z k rec) e is
iface_may z k x rec v (Err back) is = tt

pub iface_owned : (z : Settings) (k b : OnKeeper) (x y : OnCpu) (rec : Record) (v : ReferenceView) (r : Result Entry (Refusal × ReferenceView)) → IfOk r (λ e. attach_iface_answer z k x rec v ≡ Ok e)
    → IfOk r (λ e. HasAttachedIfaceFor k x v e b y) → IfOk r (λ e. (e.rec ≡ rec) × HasLearned x y × HasSeenAttach x y e)
iface_owned z k b x y rec v (Ok e) is has = (entry_rec z k rec (is_inside x) (is_iface v.entry.rec.kind) e is, learned b.view.history x y has.cpu (by_meeting x y has.own.log), has.own)
iface_owned z k b x y rec v (Err back) is has = tt

pub iface_refused : (z : Settings) (k b : OnKeeper) (x y : OnCpu) (rec : Record) (v : ReferenceView) (r : Result Entry (Refusal × ReferenceView))
    → IfErr r (λ back. (attach_iface_answer z k x rec v ≡ Err back.0) × (back.1 ≡ v) × (b ≡ k) × (y ≡ x))
    → IfErr r (λ back. Locking.IsAttachRefusal (is_inside x) (is_iface v.entry.rec.kind) back.0 × (back.1 ≡ v) × (y ≡ x))
iface_refused z k b x y rec v (Ok e) is = tt
iface_refused z k b x y rec v (Err back) is = (entry_refusal (is_inside x) (is_iface v.entry.rec.kind) (given_entry z k rec) back.0 (given_refused z k rec) is.0, is.1, is.3)

-- Detaching

pub detach_may : (k : OnKeeper) (x : OnCpu) (key : Key) (r : Result Entry Refusal) → IsDetachAnswer k x key r → IfOk r (λ _. is_inside x ≡ false)
detach_may k x key (Ok e) is = is.0
detach_may k x key (Err f) is = tt

pub detach_owned : (k b : OnKeeper) (x y : OnCpu) (key : Key) (r : Result Entry Refusal) → IsDetachAnswer k x key r → IfOk r (λ e. HasDetachedFor k x e b y)
    → IfOk r (λ e. (e.rec.kind ≡ key.kind) × (e.rec.name ≡ key.name) × HasLearned x y × HasSeenDetach x y e)
detach_owned k b x y key (Ok e) is has = (ap (λ (q : Key). q.kind) is.1.1, ap (λ (q : Key). q.name) is.1.1, learned b.view.history x y has.cpu (by_meeting x y has.own.log), has.own)
detach_owned k b x y key (Err f) is has = tt

-- Replacing

pub replace_owned : (z : Settings) (k : OnKeeper) (h : List Change) (x y : OnCpu) (unfit : Bool) (key : Key) (value : ℕ) (p : Entry × Entry) → IsReplaceAnswer z k x unfit key value (Ok p)
    → HasHeardOn h x y → HasSeenReplace x y p.0 p.1 → AreReplaced key value p × HasLearned x y × HasSeenReplace x y p.0 p.1
replace_owned z k h x y unfit key value p is has own =
    ((ap (λ (q : Key). q.kind) is.1.1, ap (λ (q : Key). q.name) is.1.1, ap (λ (e : Entry). e.rec) is.4), learned h x y has (by_meeting x y own.log), own)

pub replace_refused : (z : Settings) (k : OnKeeper) (x : OnCpu) (unfit : Bool) (key : Key) (f : Refusal) → IsReplaceRefusalOf z k x unfit key f → Locking.IsReplaceRefusedTo (is_inside x) unfit f
replace_refused z k x unfit key Inside is = is
replace_refused z k x unfit key NeedsDriver is = is
replace_refused z k x unfit key NotFound is = is.0
replace_refused z k x unfit key NoSlot is = is.0
replace_refused z k x unfit key HistoryFull is = is.0
replace_refused z k x unfit key NoMemory is = absurd is
replace_refused z k x unfit key BadSettings is = absurd is
replace_refused z k x unfit key NameTaken is = absurd is
replace_refused z k x unfit key SectionsSpent is = absurd is
replace_refused z k x unfit key NothingFound is = absurd is
replace_refused z k x unfit key PassiveFull is = absurd is
replace_refused z k x unfit key WrongCpu is = absurd is
replace_refused z k x unfit key NotHeld is = absurd is
replace_refused z k x unfit key LocalFull is = absurd is
replace_refused z k x unfit key NotRetired is = absurd is
replace_refused z k x unfit key MissingCpu is = absurd is
replace_refused z k x unfit key (StillHeld s) is = absurd is
replace_refused z k x unfit key (Waiting c) is = absurd is
replace_refused z k x unfit key TooDeep is = absurd is

-- Performing

next_small : (found : Option ℕ) (passes : Bool) (n : ℕ) → IfSome found (λ c. c < n) → IfSome (or_next found passes n) (λ c. c < suc n)
next_small (Some c) passes n lt = omega (arith, lt)
next_small None true n none = omega arith
next_small None false n none = tt

pub least_small : (p : ℕ → Bool) (n : ℕ) → IfSome (least_below p n) (λ c. c < n)
least_small p zero = tt
least_small p (suc n) = next_small (least_below p n) (p n) n (least_small p n)

pub waiting_refused : (z : Settings) (inside : Bool) (o : Option ℕ) → inside ≡ false → IfSome o (λ c. c < z.cpus) → IfErr (wait_answer o) (λ f. Locking.IsPerformRefusal z inside f)
waiting_refused z inside None out small = tt
waiting_refused z inside (Some c) out small = (out, small)

pub waited_outside : (inside : Bool) (r : Result (Unit {0}) Refusal) → inside ≡ false → IfOk r (λ _. inside ≡ false)
waited_outside inside (Ok x) out = out
waited_outside inside (Err f) out = tt
