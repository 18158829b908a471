-- A replacement: what it asks of the keeper, why it is refused, and what it leaves.
use Rattle.std.proofs.Common.{◌≡◌, ◌∙◌, ℕ, suc, Bool, true, false, Option, Some, None, List, ◌++◌, length, Ok, Err, Result, IsTrue, if◌then◌else◌, refl, sym, ap, subst}
use mathlib.Core.List.{IsPrefix}
use Rattle.name_registry.specs.Types.{Change, Replace, Room, Entry, Driver, Settings, Live, Tell, Done, Keep, LogItem, ReferenceView, Refusal, NoSlot, HistoryFull, Key}
use Rattle.registry_values.specs.Common.{has_room, is_iface, key_of, slot_at}
use Rattle.protocol.specs.Common.{keeps_rightly, after_change, IsAttached}
use Rattle.protocol.specs.History.{rank_at}
use Rattle.cpu_words.specs.Common.{did}
use Rattle.passive_list.specs.Common.{OnCpu, OnKeeper, HasHeardOn, cpu_after_tell, has_heard, HasReplacedIn, LogsReplace}
use Rattle.passive_list.proofs.Attached.{keeping_more}
use Rattle.local_count.specs.Draining.{HasReplacedKeeping}
use Rattle.name_registry.specs.Common.{first_fit, room_of, fit_slot, slot_answer, keeper_after_hear, keeper_after_tell, HasReplacedFor, HasReplacedIfaceFor, HasSeenReplace, IsLivePlace}
use Rattle.name_registry.proofs.Attached.{HasSlot, fit_has, log_told, driver_keeps}
use Rattle.name_registry.proofs.Noted.{heard_told, met, seen_replace}

-- The slot of the new entry

pub fit_tells : (fit : Option ℕ) (room : Room) (t : ℕ) → fit_slot fit room ≡ Ok t → (fit ≡ Some t) × (has_room room ≡ true)
fit_tells None room t is = absurd (let q : ◌≡◌ {A = Result ℕ Refusal} (Err NoSlot) (Ok t) = is in cc)
fit_tells (Some u) room t is = by (has_room room) is
  where
    by : (b : Bool) → ◌≡◌ {A = Result ℕ Refusal} (if b then Ok u else Err HistoryFull) (Ok t) → (◌≡◌ {A = Option ℕ} (Some u) (Some t)) × (b ≡ true)
    by true same = (let q : ◌≡◌ {A = Result ℕ Refusal} (Ok u) (Ok t) = same in cc, refl)
    by false same = absurd (let q : ◌≡◌ {A = Result ℕ Refusal} (Err HistoryFull) (Ok t) = same in cc)

-- it was found before the keeper heard the CPU x
pub slot_tells : (a : Settings) (k : OnKeeper) (x : OnCpu) (m : OnKeeper) (t : ℕ) → m ≡ keeper_after_hear k x → slot_answer a k ≡ Ok t → HasSlot a m t
slot_tells a k x m t heard is =
    let told = fit_tells (first_fit k) (room_of a k) t is in
    subst (λ (l : OnKeeper). HasSlot a l t) (sym heard) (assumption (fit_has a k t told.0 told.1))

-- the old entry, in the place that was found, where the keeper m has heard the CPU x
pub old_live : (a : OnKeeper) (x : OnCpu) (m : OnKeeper) (key : Key) (u : ℕ) → m ≡ keeper_after_hear a x → IsLivePlace a key (Some u) → (f : Entry) × (slot_at m.slots u ≡ Live f) × (key_of f ≡ key)
old_live a x m key u heard found = (found.0, ap (λ (k : OnKeeper). slot_at k.slots u) heard ∙ found.1, found.3.1)

pub driver_rightly : (f : Entry) (key : Key) (kept : Option ℕ) → kept ≡ None → key_of f ≡ key → key.kind ≡ Driver → IsTrue (keeps_rightly kept f.rec.kind)
driver_rightly f key kept none same driver =
    let kind : f.rec.kind ≡ Driver = ap (λ (q : Key). q.kind) same ∙ driver in
    driver_keeps kept f.rec.kind none (ap is_iface kind)

-- What it leaves

-- telling the history changes nothing of it
replaced_told : (a : OnKeeper) (u : ℕ) (f e : Entry) (b : OnKeeper) → HasReplacedIn a u f e b → HasReplacedIn a u f e (keeper_after_tell b)
replaced_told a u f e b has = record { entry = has.entry; slots = has.slots }

-- what the CPU has heard then
pub record HasMetReplace (a : OnKeeper) (x : OnCpu) (f e : Entry) (b : OnKeeper) (y : OnCpu) : Type 0 where
  pub seen : IsPrefix x.view.pass a.view.history
  pub cpu : HasHeardOn b.view.history x y
  pub own : HasSeenReplace x y f e

pub replace_met : (a : OnKeeper) (x : OnCpu) (m : OnKeeper) (n : OnCpu) (f e : Entry) (b : OnKeeper) (y : OnCpu) → m ≡ keeper_after_hear a x → n ≡ cpu_after_tell x → IsPrefix x.view.pass m.view.history
    → IsAttached a.view.history f → e.number ≡ suc (length m.view.history) → key_of e ≡ key_of f
    → b.view.history ≡ after_change m.view.history (Replace f.number (rank_at m.view.history f.number) e) → HasHeardOn b.view.history n y → y.log ≡ n.log ++ has_heard n None → HasMetReplace a x f e b y
replace_met a x m n f e b y heard same seen attached number alike after hears log = record {
  seen = subst (λ (k : OnKeeper). IsPrefix x.view.pass k.view.history) heard seen;
  cpu = heard_told b.view.history x y (subst (λ (z : OnCpu). HasHeardOn b.view.history z y) same hears);
  own = seen_replace m.view.history x y f e (rank_at m.view.history f.number) seen (subst (λ (h : List Change). IsAttached h f) (sym (ap (λ (k : OnKeeper). k.view.history) heard)) attached) number alike
      (subst (λ (h : List Change). IsPrefix h y.view.pass) after hears.told) (met x n y same log);
}

-- what the keeper's log says of the keeper that has heard the CPU, it says of the keeper before
logs_before : (a : OnKeeper) (x : OnCpu) (u : ℕ) (e : Entry) (old new : List LogItem) → LogsReplace (keeper_after_hear a x).view u e old new → LogsReplace a.view u e old new
logs_before a x u e old new logs = record { f = logs.f; live = logs.live; link = logs.link; leads = logs.leads; taken = logs.taken; snapshots = logs.snapshots; log = logs.log }

-- The keeper m heard the CPU x, e took the place of f in the slot u, and the CPU heard the history that the keeper b has then.
pub replaced_for : (a : OnKeeper) (x : OnCpu) (m : OnKeeper) (u : ℕ) (f e : Entry) (b : OnKeeper) (y : OnCpu) → m ≡ keeper_after_hear a x → f.slot ≡ u → HasMetReplace a x f e b y → HasReplacedIn m u f e b
    → LogsReplace m.view u e m.log b.log → HasReplacedFor a x f e (keeper_after_tell b) y
replaced_for a x m u f e b y heard slot met has logs =
    let at : OnKeeper = keeper_after_hear a x in
    record {
      seen = met.seen;
      keeper = replaced_told at f.slot f e b (subst (λ (t : ℕ). HasReplacedIn at t f e b) (sym slot) (subst (λ (k : OnKeeper). HasReplacedIn k u f e b) heard has));
      log = (b.log, subst (λ (t : ℕ). LogsReplace a.view t e at.log b.log) (sym slot) (logs_before a x u e at.log b.log (subst (λ (k : OnKeeper). LogsReplace k.view u e k.log b.log) heard logs)), refl);
      cpu = met.cpu;
      own = met.own;
    }

keeping_told : (a : OnKeeper) (v : ReferenceView) (u : ℕ) (f e : Entry) (b : OnKeeper) → HasReplacedKeeping a v u f e b → HasReplacedKeeping a v u f e (keeper_after_tell b)
keeping_told a v u f e b has = record {
  kept = has.kept;
  replaced = replaced_told _ u f e b has.replaced;
  keeping = keeping_more e.slot e.number v.entry.number b.log (b.log ++ did (Tell None) Done) (did (Tell None) Done, refl) has.keeping;
}

-- and its slot keeps the reference
pub replaced_iface_for : (a : OnKeeper) (x : OnCpu) (m : OnKeeper) (v : ReferenceView) (u : ℕ) (f e : Entry) (b told : OnKeeper) (y : OnCpu) → m ≡ keeper_after_hear a x → f.slot ≡ u → HasMetReplace a x f e b y
    → HasReplacedKeeping m v u f e b → LogsReplace m.view u e (m.log ++ did (Keep e.slot v.entry.number) Done) b.log → told ≡ keeper_after_tell b → IsPrefix told.log y.known_log
    → HasReplacedIfaceFor a x v f e told y
replaced_iface_for a x m v u f e b told y heard slot met has logs is pre =
    let at : OnKeeper = keeper_after_hear a x in
    let keeps = did (Keep e.slot v.entry.number) Done in
    subst (λ (k : OnKeeper). HasReplacedIfaceFor a x v f e k y) (sym is) record {
      seen = met.seen;
      keeper = keeping_told at v f.slot f e b (subst (λ (t : ℕ). HasReplacedKeeping at v t f e b) (sym slot) (subst (λ (k : OnKeeper). HasReplacedKeeping k v u f e b) heard has));
      log = (
        b.log,
        subst (λ (t : ℕ). LogsReplace a.view t e (at.log ++ keeps) b.log) (sym slot)
            (logs_before a x u e (at.log ++ keeps) b.log (subst (λ (k : OnKeeper). LogsReplace k.view u e (k.log ++ keeps) b.log) heard logs)),
        refl,
      );
      keeping = keeping_more e.slot e.number v.entry.number b.log y.known_log (log_told b told y is pre) has.keeping;
      cpu = met.cpu;
      own = met.own;
    }
