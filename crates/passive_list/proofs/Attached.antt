-- An entry is published: the keeper may do so, and what it has agrees with what its seat knows then.
use Rattle.std.proofs.Common.{◌≡◌, ℕ, ◌+◌, ◌<◌, ◌≤◌, false, List, length, set, Some, IsTrue, refl, sym, ap, ◌∙◌, subst, arith, get_or-set_same, length-set, inl, zero, suc, Bool, true, true≢false, [], ◌∷◌, ◌++◌, get_or, Option}
use Rattle.std.proofs.lemmas.List.Folds.{Any-from_list_any, list_any_at}
use Rattle.std.proofs.lemmas.List.Sums.{sum_by-cons}
use Rattle.std.proofs.lemmas.List.{append_assoc, get_or_default}
use Rattle.atomic_table.specs.Seated.{TableId}
use mathlib.Core.List.{IsPrefix}
use Rattle.passive_list.specs.Types.{Iface, Record, Settings, Slot, Vacant, KeeperView, LogItem, Attach, Change, Done, Entry, Kind, Driver, Key, Live, Retired}
use Rattle.registry_values.specs.Common.{bias, key_of_record, is_taken, live_count, slot_at, is_key, key_of, is_live, is_live_as, kind_word}
use Rattle.registry_values.proofs.Fit.{ranges}
use Rattle.protocol.specs.Common.{count_at, total_at, kept_at, with_biases, no_words, entry_if, entry_of, keeps_rightly, kind_of, words_of, after_change, one_if}
use Rattle.protocol.specs.State.{row_at as words_at}
use Rattle.protocol.specs.History.{rank_at}
use Rattle.protocol.proofs.History.{length-after_change}
use Rattle.protocol.proofs.keeps.ListKeeps.{live_count_set, rows_put}
use Rattle.protocol.proofs.Occupied.{in_within}
use Rattle.cpu_words.specs.Common.{IsAttachedKeeping, LeadsBelow, MayPublish, HasPublished, To_end, To_slot, IsShown, keeper_after_live, log_item}
use Rattle.passive_list.specs.Common.{AreRanksOf, AreSized, KeptSlot, OnPlainKeeper, on_keeper, row_at, states_of, IsAtRest, RowsAgree, IsOurKeeper, MayAttach, keeper_after_stores, keeper_after_publish}
use Rattle.passive_list.proofs.Ranks.{rank_attach, rank_out}
use Rattle.passive_list.proofs.Rows.{keeper_on, ranks_of, slots_agree, state_at, state_set, live_in}
use Rattle.passive_list.proofs.Preparing.{biases_size, bias_stored}

-- Who is live

-- what is live in one list is live in the other
abbrev pub LiveIn : List Slot → List Slot → Type 0
LiveIn xs ys = (u : ℕ) (f : Entry) → slot_at xs u ≡ Live f → slot_at ys u ≡ Live f

pub rows_live : (a : Settings) (k : KeeperView) (rows : List KeptSlot) → RowsAgree a k rows → LiveIn (states_of rows) k.slots
rows_live a k rows agree u f live = (live_in a k rows u f agree live).1

pub live_rows : (a : Settings) (k : KeeperView) (rows : List KeptSlot) → IsAtRest a k → RowsAgree a k rows → LiveIn k.slots (states_of rows)
live_rows a k rows at agree u f live = sym (slots_agree a k rows u at agree) ∙ live

pub leads_on : (ranks : ℕ → ℕ) (xs ys : List Slot) (n v : ℕ) → LiveIn xs ys → LiveIn ys xs → LeadsBelow ranks xs n v → LeadsBelow ranks ys n v
leads_on ranks xs ys n v on back (To_end none) = To_end (λ u h live below. none u h (back u h live) below)
leads_on ranks xs ys n v on back (To_slot t f live below most) = To_slot t f (on t f live) below (λ u h is lt. most u h (back u h is) lt)

-- where a link leads by the rows, it leads by what the seat knows
pub leads_in : (a : Settings) (k : KeeperView) (rows : List KeptSlot) (n v : ℕ) → IsAtRest a k → RowsAgree a k rows
    → ((ranks : ℕ → ℕ) → AreRanksOf ranks rows → LeadsBelow ranks (states_of rows) n v) → LeadsBelow (rank_at k.history) k.slots n v
leads_in a k rows n v at agree link =
    leads_on (rank_at k.history) (states_of rows) k.slots n v (rows_live a k rows agree) (live_rows a k rows at agree) (link (rank_at k.history) (ranks_of a k rows agree))

-- a link leads to a slot
pub leads_within : (ranks : ℕ → ℕ) (slots : List Slot) (n v : ℕ) → LeadsBelow ranks slots n v → v ≤ length slots
leads_within ranks slots n zero (To_end none) = omega arith
leads_within ranks slots n _ (To_slot t f live lt most) = omega (arith, in_within slots t f (inl live))

pub free_on : (key : Key) (xs ys : List Slot) → LiveIn ys xs → is_taken key xs ≡ false → is_taken key ys ≡ false
free_on key xs ys back free = by (is_taken key ys) refl
  where
    live : (u : ℕ) (y : Slot) → slot_at ys u ≡ y → is_live_as key y ≡ true → is_taken key xs ≡ true
    live u Vacant here is = absurd (true≢false (sym is))
    live u (Live f) here is = let there = back u f here in list_any_at (is_live_as key) xs u Vacant (in_within xs u f (inl there)) (ap (is_live_as key) there ∙ is)
    live u (Retired f) here is = absurd (true≢false (sym is))

    by : (b : Bool) → is_taken key ys ≡ b → b ≡ false
    by false is = refl
    by true is =
        let found = Any-from_list_any (is_live_as key) ys is in
        sym (live found.0 found.1 (sym (get_or_default ys found.0 found.1 Vacant found.2) ∙ found.3) found.4) ∙ free

live_on : (x y : Slot) → ((f : Entry) → x ≡ Live f → y ≡ Live f) → one_if (is_live x) ≤ one_if (is_live y)
live_on Vacant y so = omega arith
live_on (Live f) y so = rw (so f refl) (omega arith)
live_on (Retired f) y so = omega arith

pub count_on : (xs ys : List Slot) → LiveIn xs ys → live_count xs ≤ live_count ys
count_on [] ys on = omega arith
count_on (x ∷ xs) [] on =
    let rest = count_on xs [] (λ u f live. on (suc u) f live) in
    let split = sum_by-cons (λ (y : Slot). one_if (is_live y)) x xs in
    let first : one_if (is_live x) ≤ 0 = live_on x Vacant (λ f is. on zero f is) in
    omega (arith, rest, split, first)
count_on (x ∷ xs) (y ∷ ys) on =
    let split_y = sum_by-cons (λ (z : Slot). one_if (is_live z)) y ys in
    omega (arith, count_on xs ys (λ u f live. on (suc u) f live), sum_by-cons (λ (z : Slot). one_if (is_live z)) x xs, split_y, live_on x y (λ f is. on zero f is))

-- The entry by its words

pub entry_is : (e : Entry) → IsTrue (is_key e.rec.name) → entry_of e.slot (words_of e) ≡ Some e
entry_is e lawful = by e.rec.kind
  where
    by : (x : Kind) → entry_if e.slot (record { number = e.number; kind = kind_word x; high = e.rec.name.high; low = e.rec.name.low; value = e.rec.value }) (kind_of (kind_word x))
        ≡ Some (record { number = e.number; slot = e.slot; rec = record { kind = x; name = e.rec.name; value = e.rec.value } })
    by Iface = rw (lawful) refl
    by Driver = rw (lawful) refl

-- Publishing

-- the slot of e has its words, with the link v, and counts no reference
pub record HasWords (k : KeeperView) (e : Entry) (v : ℕ) : Type 0 where
  pub entry : entry_of e.slot (words_at k.rows e.slot) ≡ Some e
  pub link : get_or k.next e.slot 0 ≡ v
  pub counts : (c : ℕ) → c < k.settings.cpus → count_at k.counts c e.slot ≡ bias
  pub total : total_at k.totals e.slot ≡ bias

pub has_words : (a : Settings) (k : KeeperView) (rows : List KeptSlot) (e : Entry) (v : ℕ) → IsAtRest a k → RowsAgree a k rows → e.slot < a.slots → slot_at (states_of rows) e.slot ≡ Vacant
    → IsTrue (is_key e.rec.name) → HasWords (keeper_after_stores k e v) e v
has_words a k rows e v at agree lt vacant name =
    let t = e.slot in
    let had = agree.each t lt in
    let none : ℕ = 0 in
    record {
      entry = ap (entry_of t) (get_or-set_same k.rows t (words_of e) no_words (omega (arith, lt, at.sized.rows))) ∙ entry_is e name;
      link = get_or-set_same k.next t v none (omega (arith, lt, at.sized.next));
      counts = λ c cpu. bias_stored k.counts t k.settings.cpus c (get_or k.counts t []) (omega (arith, lt, at.sized.counts)) cpu;
      total = sym had.total ∙ had.unused (sym (state_at rows t) ∙ vacant);
    }

pub stored_sized : (a : Settings) (k : KeeperView) (e : Entry) (v : ℕ) → IsAtRest a k → e.slot < a.slots → AreSized a.slots (keeper_after_stores k e v)
stored_sized a k e v at lt =
    let t = e.slot in
    let row = get_or k.counts t [] in
    let long = at.sized.count_rows t (omega (arith, lt, at.sized.counts)) in
    let biases = with_biases k.settings.cpus row in
    record {
      slots = at.sized.slots;
      marks = at.sized.marks;
      mark_rows = at.sized.mark_rows;
      keeps = at.sized.keeps;
      next = length-set k.next t v ∙ at.sized.next;
      rows = length-set k.rows t (words_of e) ∙ at.sized.rows;
      totals = at.sized.totals;
      counts = length-set k.counts t biases ∙ at.sized.counts;
      count_rows = rows_put k.counts t biases (biases_size row k.settings.cpus long (omega (arith, (ranges a at.fit).cpus, ap (λ (z : Settings). z.cpus) at.settings))) at.sized.count_rows;
    }

pub may_publish : (a : Settings) (k : KeeperView) (rows : List KeptSlot) (e : Entry) (v : ℕ) → MayAttach a k rows e
    → ((ranks : ℕ → ℕ) → AreRanksOf ranks rows → LeadsBelow ranks (states_of rows) e.number v)
    → MayPublish (keeper_after_stores k e v) e.slot e
may_publish a k rows e v asked link =
    let at = asked.at in
    let t = e.slot in
    let lt = asked.slot in
    let back = live_rows a k rows at asked.agree in
    let has = has_words a k rows e v at asked.agree lt asked.vacant asked.name in
    record {
      rest = at.rest;
      slot = subst (λ (z : Settings). t < z.slots) (sym at.settings) lt;
      vacant = slots_agree a k rows t at asked.agree ∙ asked.vacant;
      entry = has.entry;
      number = asked.number;
      free = free_on (key_of e) (states_of rows) k.slots back asked.free;
      room = omega (arith, count_on k.slots (states_of rows) back, asked.room, ap (λ (z : Settings). z.change_limit) at.settings);
      link = subst (LeadsBelow (rank_at k.history) k.slots (suc (length k.history))) (sym has.link)
          (subst (λ (n : ℕ). LeadsBelow (rank_at k.history) k.slots n v) asked.number (leads_in a k rows e.number v at asked.agree link));
      counts = has.counts;
      total = has.total;
      keeps = asked.keeps;
    }

-- what publishing leaves, in one view
pub published_is : (k l m : KeeperView) (e : Entry) (v : ℕ) → l ≡ keeper_after_stores k e v → (f : Entry) × MayPublish l e.slot f × HasPublished l e.slot f m
    → MayPublish (keeper_after_stores k e v) e.slot e → m ≡ keeper_after_publish k e v
published_is k l m e v at told may =
    let t = e.slot in
    let p = keeper_after_stores k e v in
    let f = told.0 in
    let same : f ≡ e = let q : ◌≡◌ {A = Option Entry} (Some f) (Some e) = sym (ap (λ (x : KeeperView). entry_of t (words_at x.rows t)) (sym at) ∙ told.1.entry) ∙ may.entry in cc in
    told.2 ∙ (ap (λ (x : KeeperView). record x { head = t + 1; history = after_change x.history (Attach f); slots = set x.slots t (Live f) }) at
    ∙ ap (λ (x : Entry). record p { head = t + 1; history = after_change p.history (Attach x); slots = set p.slots t (Live x) }) same)

abbrev pub row_live : KeptSlot → Entry → KeptSlot
row_live r e = record { state = Live e; total = r.total; keeps = r.keeps; rank = e.number }

-- the rank of what is attached is its number
own_rank : (k : KeeperView) (e f : Entry) → e.number ≡ suc (length k.history) → Live e ≡ Live f → e.number ≡ rank_at (after_change k.history (Attach e)) f.number
own_rank k e f number is =
    let one : e ≡ f = cc in
    subst (λ (i : Entry). e.number ≡ rank_at (after_change k.history (Attach e)) i.number) one
    (sym (rank_attach k.history e e.number ∙ rank_out k.history e.number (omega (arith, number))))

published_at_rest : (a : Settings) (k : KeeperView) (rows : List KeptSlot) (e : Entry) (v : ℕ) → MayAttach a k rows e → IsAtRest a (keeper_after_live (keeper_after_publish k e v) e.slot e.number)
published_at_rest a k rows e v asked =
    let at = asked.at in
    let t = e.slot in
    let lt = asked.slot in
    let more : live_count (set k.slots t (Live e)) + one_if (is_live (slot_at k.slots t)) ≡ live_count k.slots + 1 = live_count_set k.slots t (Live e) (omega (arith, lt, at.sized.slots)) in
    let count = count_on k.slots (states_of rows) (live_rows a k rows at asked.agree) in
    let room : length (after_change k.history (Attach e)) + live_count (set k.slots t (Live e)) ≤ a.change_limit = omega (arith, more, count, length-after_change k.history (Attach e), asked.room) in
    assumption (room, length-set k.slots t (Live e) ∙ at.sized.slots, stored_sized a k e v at lt, at)

-- what the keeper has agrees with what it publishes, after any step that brought its seat to the view k
pub published_keeper : (a : Settings) (k l : KeeperView) (rows : List KeptSlot) (n : ℕ) (e : Entry) (v : ℕ) → n ≡ length k.history → MayAttach a k rows e → l ≡ keeper_after_live (keeper_after_publish k e v) e.slot e.number → IsShown l
    → IsOurKeeper a l (set rows e.slot (row_live (row_at rows e.slot) e)) (n + 1)
published_keeper a k l rows n e v was asked change is_shown =
    let m = keeper_after_live (keeper_after_publish k e v) e.slot e.number in
    keeper_on a l m (set rows e.slot (row_live (row_at rows e.slot) e)) (n + 1) change is_shown (published_at_rest a k rows e v asked)
    (omega (arith, was, length-after_change k.history (Attach e))) (state_set a k m rows e.slot (Live e) e.number asked.at.sized.slots asked.agree asked.slot refl refl refl (λ vacant. cc)
    (λ f is. own_rank k e f asked.number is) (λ u f is. rank_attach k.history e f.number))

-- what is asked of a caller, of the keeper's own view
pub ask : {table : TableId} {log : List LogItem} (a : Settings) (k : KeeperView) (rows : List KeptSlot) (n t : ℕ) (rec : Record) (x : OnPlainKeeper) → IsOurKeeper a k rows n
    → on_keeper table a k rows log ≡ x
    → (t < x.words.settings.slots) × (slot_at x.keeper.slots t ≡ Vacant) → IsTrue (keeps_rightly (kept_at x.keeper.view.keeps t) rec.kind) → IsTrue (is_key rec.name)
    → is_taken (key_of_record rec) x.keeper.slots ≡ false
    → length x.keeper.view.history + live_count x.keeper.slots + 2 ≤ x.words.settings.change_limit → MayAttach a k rows (record { number = n + 1; slot = t; rec = rec })
ask a k rows n t rec x our is vacant keeps name free room = record {
  at = our.view;
  agree = our.rows;
  slot = subst (λ (y : OnPlainKeeper). t < y.words.settings.slots) (sym is) vacant.0;
  vacant = ap (λ (y : OnPlainKeeper). slot_at y.keeper.slots t) is ∙ vacant.1;
  keeps = ap (λ (y : OnPlainKeeper). keeps_rightly (kept_at y.keeper.view.keeps t) rec.kind) is ∙ keeps;
  name = name;
  free = ap (λ (y : OnPlainKeeper). is_taken (key_of_record rec) y.keeper.slots) is ∙ free;
  room = subst (λ (y : OnPlainKeeper). length y.keeper.view.history + live_count y.keeper.slots + 2 ≤ y.words.settings.change_limit) (sym is) room;
  number = omega (arith, our.changes);
}

-- what a log says of the slot's driver, a longer log says, too
pub keeping_more : (t n d : ℕ) (log later : List LogItem) → IsPrefix log later → IsAttachedKeeping t n d log → IsAttachedKeeping t n d later
keeping_more t n d log later pre is = record {
  before = is.before;
  after = is.after ++ pre.0;
  event = is.event;
  publishing = is.publishing;
  are = sym pre.1 ∙ (ap (λ (l : List LogItem). l ++ pre.0) is.are ∙ append_assoc is.before (log_item is.event Done ∷ is.after) pre.0);
  number = is.number;
  keeps = is.keeps;
}

-- what the log says of the slot's driver, of the entry by its number
pub attached_as : (k m : KeeperView) (e : Entry) (d : ℕ) (log : List LogItem) → m.keeps ≡ k.keeps → m.history ≡ k.history → e.number ≡ suc (length k.history)
    → (kept_at m.keeps e.slot ≡ Some d → IsAttachedKeeping e.slot (suc (length m.history)) d log) → kept_at k.keeps e.slot ≡ Some d → IsAttachedKeeping e.slot e.number d log
attached_as k m e d log same history number told keeps =
    subst (λ (n : ℕ). IsAttachedKeeping e.slot n d log) (ap (λ (h : List Change). suc (length h)) history ∙ sym number) (told (ap (λ (ks : List (Option ℕ)). kept_at ks e.slot) same ∙ keeps))
