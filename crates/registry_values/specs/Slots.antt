-- The marks of the CPUs for a slot, and the slots: who is live, which slot has a number, what its marks say.
use Rattle.std.specs.Prelude.{ℕ, ◌%◌, ◌==◌, Bool, true, false, not, List, take, Option, Some, None, zero, suc, ◌||◌, ◌≡◌, ◌+◌, ◌&&◌, count_by, position, slice_index_or, is_none}
use Rattle.std.specs.List.{list_any, list_all, zip}
use Rattle.registry_values.specs.declared.mark.Mark.{Mark}
use Rattle.registry_values.specs.declared.entry.Kind.{Kind}
use Rattle.registry_values.specs.declared.entry.Kind.TheVariants.{Iface, Driver}
use Rattle.registry_values.specs.declared.entry.Entry.{Entry}
use Rattle.registry_values.specs.declared.name.Name.{Name}
use Rattle.registry_values.specs.declared.slot.Key.{Key}
use Rattle.registry_values.specs.declared.slot.Slot.{Slot}
use Rattle.registry_values.specs.declared.slot.Slot.TheVariants.{Vacant, Live, Retired}
use Rattle.registry_values.specs.declared.entry.Record.{Record}

-- What is said of one mark, and of a row of marks: what a step makes of it, and what is so of all CPUs.

abbrev pub is_even : ℕ → Bool
is_even w = w % 2 == 0

-- the word differs from the snapshot
abbrev pub has_changed : Option ℕ → ℕ → Bool
has_changed None w = false
has_changed (Some x) w = not (x == w)

abbrev pub is_passed : Mark → Bool
is_passed m = m.passed

abbrev pub is_clear : Mark → Bool
is_clear m = m.clear

abbrev pub is_collected : Mark → Bool
is_collected m = m.collected

-- of the marks of all CPUs for one slot
abbrev pub have_passed : ℕ → List Mark → Bool
have_passed cpus row = list_all is_passed (take cpus row)

abbrev pub are_clear : ℕ → List Mark → Bool
are_clear cpus row = list_all is_clear (take cpus row)

abbrev pub are_collected : ℕ → List Mark → Bool
are_collected cpus row = list_all is_collected (take cpus row)

abbrev pub is_some_collected : ℕ → List Mark → Bool
is_some_collected cpus row = list_any is_collected (take cpus row)

abbrev pub no_mark : Mark
no_mark = record { snapshot = None; passed = false; clear = false; collected = false }

-- a CPU has passed once its word was seen even, or different from the snapshot; a pass stays
abbrev pub mark_after_look : Mark → ℕ → Mark
mark_after_look m w = record { snapshot = m.snapshot; passed = m.passed || (is_even w || has_changed m.snapshot w); clear = m.clear; collected = m.collected }

abbrev pub mark_after_passive_look : Mark → ℕ → Mark
mark_after_passive_look m w = record { snapshot = m.snapshot; passed = m.passed; clear = m.clear || w == 0; collected = m.collected }

abbrev pub mark_after_collect : Mark → Mark
mark_after_collect m = record { snapshot = m.snapshot; passed = m.passed; clear = m.clear; collected = true }

-- the word shows its CPU out of the section of the snapshot
abbrev pub is_out : ℕ → ℕ → Bool
is_out snapshot w = is_even w || not (snapshot == w)

-- the least number that passes, of those already looked through and one more
abbrev pub or_next : Option ℕ → Bool → ℕ → Option ℕ
or_next (Some c) b n = Some c
or_next None true n = Some n
or_next None false n = None

-- the least number below a bound that passes
abbrev pub least_below : (ℕ → Bool) → ℕ → Option ℕ
least_below p zero = None
least_below p (suc n) = or_next (least_below p n) (p n) n

-- a mark of one CPU for a retired entry: its snapshot and what was so once stay
pub record Grows (old new : Mark) : Type 0 where
  pub snapshot : new.snapshot ≡ old.snapshot
  pub passed : old.passed ≡ true → new.passed ≡ true
  pub clear : old.clear ≡ true → new.clear ≡ true
  pub collected : old.collected ≡ true → new.collected ≡ true

-- The slots: who is live, which slot has a number, what the marks of a slot say.

-- what an entry is looked up by
abbrev pub key_of : Entry → Key
key_of e = record { kind = e.rec.kind; name = e.rec.name }

-- the word of a kind
abbrev pub kind_word : Kind → ℕ
kind_word Iface = 1
kind_word Driver = 2

-- these are the words of the kind and of the name, its high word first
abbrev pub are_words_of : Key → ℕ → ℕ → ℕ → Bool
are_words_of key k h l = k == kind_word key.kind && (h == key.name.high && l == key.name.low)

abbrev pub is_iface : Kind → Bool
is_iface Iface = true
is_iface Driver = false

abbrev pub is_driver : Kind → Bool
is_driver Iface = false
is_driver Driver = true

abbrev pub same_name : Name → Name → Bool
same_name a b = a.high == b.high && a.low == b.low

abbrev pub same_kind : Kind → Kind → Bool
same_kind Iface Iface = true
same_kind Iface Driver = false
same_kind Driver Iface = false
same_kind Driver Driver = true

abbrev pub same_key : Key → Key → Bool
same_key a b = same_kind a.kind b.kind && same_name a.name b.name

abbrev pub is_vacant : Slot → Bool
is_vacant Vacant = true
is_vacant (Live e) = false
is_vacant (Retired e) = false

abbrev pub is_live : Slot → Bool
is_live Vacant = false
is_live (Live e) = true
is_live (Retired e) = false

abbrev pub is_retired : Slot → Bool
is_retired Vacant = false
is_retired (Live e) = false
is_retired (Retired e) = true

-- the slot shows a live entry with this kind and name
abbrev pub is_live_as : Key → Slot → Bool
is_live_as key Vacant = false
is_live_as key (Live e) = same_key (key_of e) key
is_live_as key (Retired e) = false

abbrev pub is_taken : Key → List Slot → Bool
is_taken key slots = list_any (is_live_as key) slots

-- how many slots show a live entry
abbrev pub live_count : List Slot → ℕ
live_count slots = count_by is_live slots

-- the entry with this number is live or retired here
abbrev pub has_number : ℕ → Slot → Bool
has_number n Vacant = false
has_number n (Live e) = e.number == n
has_number n (Retired e) = e.number == n

-- the slot whose live or retired entry is n
abbrev pub slot_of : List Slot → ℕ → Option ℕ
slot_of slots n = position (has_number n) slots

-- a live slot whose link is x
abbrev pub leads_to : ℕ → Slot × ℕ → Bool
leads_to x p = is_live p.0 && p.1 == x

-- the live slot whose link leads to the slot t; none where the head does
abbrev pub slot_before : List Slot → List ℕ → ℕ → Option ℕ
slot_before slots next t = position (leads_to (t + 1)) (zip slots next)

abbrev pub slot_at : List Slot → ℕ → Slot
slot_at slots t = slice_index_or slots t Vacant

-- the number of the retired entry here
abbrev pub retired_number : Slot → Option ℕ
retired_number Vacant = None
retired_number (Live e) = None
retired_number (Retired e) = Some e.number

-- the retired entry with this number is here
abbrev pub is_retired_as : ℕ → Slot → Bool
is_retired_as n Vacant = false
is_retired_as n (Live e) = false
is_retired_as n (Retired e) = e.number == n

-- the slot whose retired entry is n
abbrev pub retired_slot : List Slot → ℕ → Option ℕ
retired_slot slots n = position (is_retired_as n) slots

-- a slot that an attach may take: it is vacant and keeps nothing
abbrev pub is_available : Slot × Option ℕ → Bool
is_available p = is_vacant p.0 && is_none p.1

-- what a record is looked up by
abbrev pub key_of_record : Record → Key
key_of_record rec = record { kind = rec.kind; name = rec.name }
