-- An attach and a detach: what the entry that is given tells, the keeper's live slots, and what the calls leave.
use Rattle.std.proofs.Common.{◌≡◌, ◌∙◌, ℕ, suc, ◌+◌, ◌≤◌, Bool, true, false, Option, Some, None, List, ◌++◌, length, Ok, append_assoc, IsTrue, refl, sym, ap, subst, arith, add-one, leb-true, inl, Result, Err, position}
use Rattle.std.specs.Prelude.{◌≢◌, ◌↔◌, is_some}
use Rattle.std.specs.List.{zip}
use Rattle.std.proofs.lemmas.Option.{none-some}
use Rattle.std.proofs.lemmas.List.Quantifiers.{position-Some}
use Rattle.std.proofs.lemmas.Slice.Zip.{get_or-zip, length-zip}
use mathlib.Core.List.{IsPrefix}
use Rattle.name_registry.specs.Types.{Change, Attach, Entry, Kind, Iface, Driver, Record, Settings, Slot, Vacant, Live, Retired, Tell, Done, LogItem, ReferenceView, Refusal, Inside, NotFound, Key, KeeperView, KeptSlot}
use Rattle.registry_values.specs.Common.{has_room, is_available, key_of_record, is_iface, is_taken, live_count, slot_at, detach_answer, is_live_as, same_key}
use Rattle.registry_values.proofs.Answers.{given_tells}
use Rattle.registry_values.proofs.Slots.{key_same, live_tells}
use Rattle.protocol.specs.Common.{keeps_rightly, after_change, kept_at, IsAttached, IsLiveAt}
use Rattle.protocol.proofs.Cells.{position_fails}
use Rattle.protocol.proofs.Occupied.{in_within, live_one}
use Rattle.cpu_words.specs.Common.{did}
use Rattle.cpu_words.proofs.by_keeper.KeeperSteps.{seen_by_keeper}
use Rattle.passive_list.specs.Common.{OnCpu, OnKeeper, HasHeardOn, cpu_after_tell, has_heard, HasAttached, states_of, IsOurKeeper, HasDetached, LogsDetach}
use Rattle.passive_list.proofs.Attached.{keeping_more, rows_live, live_rows}
use Rattle.local_count.specs.Draining.{HasAttachedKeeping}
use Rattle.name_registry.specs.Common.{given_entry, first_fit, room_of, keeper_after_hear, keeper_after_tell, HasSeenAttach, IsDetachRefusal, IsLookupNow, IsLivePlace, HasDetachedFor, is_inside}
use Rattle.name_registry.proofs.Noted.{seen_attach, heard_told, met, seen_detach}

-- The entry that is given

available_parts : (x : Slot) (kept : Option ℕ) → is_available (x, kept) ≡ true → (x ≡ Vacant) × (kept ≡ None)
available_parts Vacant None is = (refl, refl)
available_parts Vacant (Some n) is = absurd (let q : ◌≡◌ {A = Bool} false true = is in cc)
available_parts (Live e) kept is = absurd (let q : ◌≡◌ {A = Bool} false true = is in cc)
available_parts (Retired e) kept is = absurd (let q : ◌≡◌ {A = Bool} false true = is in cc)

-- what is so of the entry that was given, where the keeper m has heard a CPU since: it may be published in its slot
pub record MayTake (a : Settings) (m : OnKeeper) (rec : Record) (e : Entry) : Type 0 where
  pub vacant : slot_at m.slots e.slot ≡ Vacant
  pub nothing : kept_at m.view.keeps e.slot ≡ None
  pub free : is_taken (key_of_record rec) m.slots ≡ false
  pub room : length m.view.history + live_count m.slots + 2 ≤ a.change_limit
  pub entry : record { number = suc (length m.view.history); slot = e.slot; rec = rec } ≡ e

-- the slot t is vacant and keeps nothing, and the history has room for an entry there
pub record HasSlot (a : Settings) (m : OnKeeper) (t : ℕ) : Type 0 where
  pub vacant : slot_at m.slots t ≡ Vacant
  pub nothing : kept_at m.view.keeps t ≡ None
  pub room : length m.view.history + live_count m.slots + 2 ≤ a.change_limit

pub fit_has : (a : Settings) (k : OnKeeper) (t : ℕ) → first_fit k ≡ Some t → has_room (room_of a k) ≡ true → HasSlot a k t
fit_has a k t fit fits =
    let keeps = k.view.keeps in
    let at = position-Some is_available (zip k.slots keeps) t (Vacant, None) fit in
    let size = length-zip k.slots keeps in
    let lt = at.0 in
    let pair = get_or-zip k.slots keeps t (Vacant, None) (omega (arith, lt, size)) (omega (arith, lt, size)) in
    let parts = available_parts (slot_at k.slots t) (kept_at keeps t) (ap is_available (sym pair) ∙ at.1) in
    record { vacant = parts.0; nothing = parts.1; room = leb-true _ _ fits }

pub given_takes : (a : Settings) (k : OnKeeper) (rec : Record) (e : Entry) → given_entry a k rec ≡ Ok e → MayTake a k rec e
given_takes a k rec e is =
    let told = given_tells (is_taken (key_of_record rec) k.slots) (first_fit k) (room_of a k) rec e is in
    assumption (fit_has a k e.slot told.place told.fits, told.free, ap (λ (n : ℕ). record { number = n; slot = e.slot; rec = rec }) (sym (add-one (length k.view.history))) ∙ sym told.entry)

-- it was given before the keeper heard the CPU x
pub taken_tells : (a : Settings) (k : OnKeeper) (x : OnCpu) (m : OnKeeper) (rec : Record) (e : Entry) → m ≡ keeper_after_hear k x → given_entry a k rec ≡ Ok e → MayTake a m rec e
taken_tells a k x m rec e heard is =
    subst (λ (l : OnKeeper). MayTake a l rec e) (sym heard) (assumption (given_takes a k rec e is))

-- a driver's slot keeps nothing
pub driver_keeps : (kept : Option ℕ) (kind : Kind) → kept ≡ None → is_iface kind ≡ false → IsTrue (keeps_rightly kept kind)
driver_keeps kept Iface none other = absurd (let q : ◌≡◌ {A = Bool} true false = other in cc)
driver_keeps kept Driver none other = ap (λ (o : Option ℕ). keeps_rightly o Driver) none

pub a_driver : (kind : Kind) → is_iface kind ≡ false → kind ≡ Driver
a_driver Iface other = absurd (let q : ◌≡◌ {A = Bool} true false = other in cc)
a_driver Driver other = refl

-- the test for being inside a section
pub inside_is : (b : Bool) (begin : Option ℕ) → (IsTrue b ↔ begin ≢ None) → b ≡ is_some begin
inside_is true None test = absurd (test.0 refl refl)
inside_is true (Some n) test = refl
inside_is false None test = refl
inside_is false (Some n) test = test.1 (λ none. none-some n (sym none))

-- What it leaves

-- The keeper m heard the CPU x, an entry was published, and the CPU heard the history that the keeper b has then.
pub attach_met : (a : OnKeeper) (x : OnCpu) (m : OnKeeper) (n : OnCpu) (e : Entry) (b : OnKeeper) (y : OnCpu) → m ≡ keeper_after_hear a x → n ≡ cpu_after_tell x → IsPrefix x.view.pass m.view.history
    → e.number ≡ suc (length m.view.history)
    → b.view.history ≡ after_change m.view.history (Attach e) → HasHeardOn b.view.history n y → y.log ≡ n.log ++ has_heard n None
    → IsPrefix x.view.pass a.view.history × HasHeardOn b.view.history x y × HasSeenAttach x y e
attach_met a x m n e b y heard same seen number after hears log = (
  subst (λ (k : OnKeeper). IsPrefix x.view.pass k.view.history) heard seen,
  heard_told b.view.history x y (subst (λ (z : OnCpu). HasHeardOn b.view.history z y) same hears),
  seen_attach m.view.history x y e seen number (subst (λ (h : List Change). IsPrefix h y.view.pass) after hears.told) (met x n y same log),
)

-- telling the history changes nothing of it

pub attached_told : (a : OnKeeper) (e : Entry) (b : OnKeeper) → HasAttached a e b → HasAttached a e (keeper_after_tell b)
attached_told a e b has = record { entry = has.entry; slots = has.slots }

pub keeping_told : (a : OnKeeper) (v : ReferenceView) (e : Entry) (b : OnKeeper) → HasAttachedKeeping a v e b → HasAttachedKeeping a v e (keeper_after_tell b)
keeping_told a v e b has = record {
  kept = has.kept;
  attached = attached_told _ e b has.attached;
  keeping = keeping_more e.slot e.number v.entry.number b.log (b.log ++ did (Tell None) Done) (did (Tell None) Done, refl) has.keeping;
}

-- what the keeper did before it told its log is in what the CPU knows
pub log_told : (b told : OnKeeper) (y : OnCpu) → told ≡ keeper_after_tell b → IsPrefix told.log y.known_log → IsPrefix b.log y.known_log
log_told b told y is pre =
    let log : told.log ≡ b.log ++ did (Tell None) Done = ap (λ (k : OnKeeper). k.log) is in
    (did (Tell None) Done ++ pre.0, sym (append_assoc b.log (did (Tell None) Done) pre.0) ∙ (ap (λ (l : List LogItem). l ++ pre.0) (sym log) ∙ pre.1))

-- A detach: the keeper's live slots are the entries live in its history, and what the call leaves.

-- The live entries

-- the keeper's live slots are the entries that are live now, each in its slot
pub record ShowsLive (x : OnKeeper) : Type 0 where
  pub live : (t : ℕ) (e : Entry) → slot_at x.slots t ≡ Live e → IsLiveAt x.view.history (length x.view.history) e × (e.slot ≡ t)
  pub placed : (e : Entry) → IsLiveAt x.view.history (length x.view.history) e → slot_at x.slots e.slot ≡ Live e

-- by any state of the core that shows its view
pub keeper_shows : {log : List LogItem} (a : Settings) (k : KeeperView) (rows : List KeptSlot) (n : ℕ) (x : OnKeeper) → IsOurKeeper a k rows n
    → record { view = k; slots = states_of rows; log = log } ≡ x → ShowsLive x
keeper_shows a k rows n x our is =
    let p = our.is_shown in
    let seen = seen_by_keeper p.g k p.good p.shown in
    let shown = p.good.holds.slots in
    subst ShowsLive is record {
      live = λ t e live. subst (λ (h : List Change). IsLiveAt h (length h) e × (e.slot ≡ t)) (sym seen.history)
          (shown.live t e (sym (ap (λ (xs : List Slot). slot_at xs t) seen.slots) ∙ rows_live a k rows our.rows t e live));
      placed = λ e live. live_rows a k rows our.view our.rows e.slot e
          (ap (λ (xs : List Slot). slot_at xs e.slot) seen.slots ∙ shown.placed e (subst (λ (h : List Change). IsLiveAt h (length h) e) seen.history live));
    }

-- the first place with a live entry of the key
pub place_tells : (x : OnKeeper) (key : Key) (t : ℕ) → ShowsLive x → position (is_live_as key) x.slots ≡ Some t → IsLivePlace x key (Some t)
place_tells x key t shows at =
    let live = live_tells key (slot_at x.slots t) (position-Some (is_live_as key) x.slots t Slot.Vacant at).1 in
    let shown = shows.live t live.0 live.1 in
    (live.0, live.1, shown.1, (shown.0, live.2))

-- where there is no such place, a lookup finds none
pub no_place : (x : OnKeeper) (key : Key) → ShowsLive x → position (is_live_as key) x.slots ≡ None → IsLivePlace x key None
no_place x key shows none e live same =
    let placed = shows.placed e live in
    position_fails (is_live_as key) x.slots e.slot Slot.Vacant none (in_within x.slots e.slot e (inl placed)) (ap (is_live_as key) placed ∙ (ap (λ (k : Key). same_key k key) same ∙ key_same key))

-- the keeper m heard the CPU x, and answers the entry e of that place
pub place_is : (a : OnKeeper) (x : OnCpu) (m : OnKeeper) (key : Key) (t : ℕ) (e : Entry) → m ≡ keeper_after_hear a x → IsLivePlace a key (Some t) → slot_at m.slots t ≡ Live e
    → IsLookupNow a key (Some e) × (slot_at a.slots e.slot ≡ Live e) × (e.slot ≡ t)
place_is a x m key t e heard found is =
    let live : slot_at a.slots t ≡ Live e = subst (λ (k : OnKeeper). slot_at k.slots t ≡ Live e) heard is in
    let one : found.0 ≡ e = live_one found.0 e (slot_at a.slots t) live (inl found.1) in
    let slot : e.slot ≡ t = subst (λ (f : Entry). f.slot ≡ t) one found.2 in
    (subst (λ (f : Entry). IsLookupNow a key (Some f)) one found.3, ap (slot_at a.slots) slot ∙ live, slot)

-- What it leaves

-- telling the history changes nothing of it
detached_told : (a : OnKeeper) (t : ℕ) (e : Entry) (b : OnKeeper) → HasDetached a t e b → HasDetached a t e (keeper_after_tell b)
detached_told a t e b has = search (has.is_before, has.leads, has.hidden, has.made, has.snapshots, has.view, has.slots)

-- The keeper m heard the CPU x, the entry e in the slot t was retired, and the CPU heard the history that the keeper b has then.
pub detached_for : (a : OnKeeper) (x : OnCpu) (m : OnKeeper) (n : OnCpu) (t : ℕ) (e : Entry) (b : OnKeeper) (y : OnCpu) → m ≡ keeper_after_hear a x → n ≡ cpu_after_tell x
    → IsPrefix x.view.pass m.view.history → IsAttached a.view.history e → e.slot ≡ t
    → HasDetached m t e b → LogsDetach m.view.settings.cpus t m.log b.log → HasHeardOn b.view.history n y → y.log ≡ n.log ++ has_heard n None → HasDetachedFor a x e (keeper_after_tell b) y
detached_for a x m n t e b y heard same seen attached slot has logs hears log =
    let before = subst (λ (k : OnKeeper). IsPrefix x.view.pass k.view.history) heard seen in
    let done = subst (λ (u : ℕ). HasDetached (keeper_after_hear a x) u e b) (sym slot) (subst (λ (k : OnKeeper). HasDetached k t e b) heard has) in
    record {
      seen = before;
      keeper = detached_told (keeper_after_hear a x) e.slot e b done;
      log = (b.log, subst (λ (u : ℕ). LogsDetach a.view.settings.cpus u (keeper_after_hear a x).log b.log) (sym slot) (subst (λ (k : OnKeeper). LogsDetach k.view.settings.cpus t k.log b.log) heard logs), refl);
      cpu = heard_told b.view.history x y (subst (λ (z : OnCpu). HasHeardOn b.view.history z y) same hears);
      own = seen_detach a.view.history x y e before attached (subst (λ (h : List Change). IsPrefix h y.view.pass) (ap (λ (k : KeeperView). k.history) done.view) hears.told) (met x n y same log);
    }

same_refusal : (f g : Refusal) → ◌≡◌ {A = Result ℕ Refusal} (Err f) (Err g) → f ≡ g
same_refusal f g q = cc

-- a detach is refused inside a section, or where the lookup finds nothing
pub refused_rightly : (k : OnKeeper) (x : OnCpu) (key : Key) (inside : Bool) (found : Option ℕ) (f : Refusal) → inside ≡ is_inside x → IsLivePlace k key found
    → ◌≡◌ {A = Result ℕ Refusal} (Err f) (detach_answer inside found) → IsDetachRefusal k x key f
refused_rightly k x key true found f in_section lookup is = subst (IsDetachRefusal k x key) (same_refusal Inside f (sym is)) (sym in_section)
refused_rightly k x key false None f outside lookup is = subst (IsDetachRefusal k x key) (same_refusal NotFound f (sym is)) (sym outside, lookup)
refused_rightly k x key false (Some t) f outside lookup is = absurd (let q : ◌≡◌ {A = Result ℕ Refusal} (Err f) (Ok t) = is in cc)
