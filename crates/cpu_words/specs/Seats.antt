-- The seats: the table that a type names, the table at the start, the seats of the CPUs, and notes from one seat to another.
use Rattle.std.specs.Prelude.{◌≡◌, ℕ, ◌+◌, ◌<◌, List, [], length, slice_index, None, Some}
use Rattle.atomic_table.specs.Seated.{TableId}
use mathlib.Core.Option.{some}
use lib.ListN.{get_elem?}
use mathlib.Core.List.{IsPrefix}
use Rattle.cpu_words.specs.Types.{Settings, Rest, Change, Hear, Done}
use Rattle.registry_values.specs.Common.{bias}
use Rattle.cpu_words.specs.Views.{Named, Seated, new_keeper, new_cpu, keeper_of, cpu_of, note_of}
use Rattle.cpu_words.specs.declared.view.CpuView.{CpuView}
use Rattle.cpu_words.specs.declared.view.KeeperView.{KeeperView}
use Rattle.cpu_words.specs.declared.view.View.{View}
use Rattle.cpu_words.specs.declared.view.View.TheVariants.{Keeper, Cpu, Note}
use Rattle.cpu_words.specs.Spots.{total_of, index, words_of}
use Rattle.cpu_words.specs.Steps.{Makes}

-- w is the table with these settings: those that D names, as `AreWordsOf w D.table D.settings`
abbrev pub AreWordsOf : Named → TableId → Settings → Type 0
AreWordsOf w table settings = (w.table ≡ table) × (w.settings ≡ settings)

-- The table at the start, and the seats of the CPUs.

-- the keeper is at rest, and a CPU has no seat yet
pub record MaySeat (k : KeeperView) : Type 0 where
  pub rest : k.due ≡ Rest
  pub left : k.seated < k.settings.cpus

-- one more CPU has its seat
abbrev pub one_seated : KeeperView → KeeperView
one_seated k = record k { seated = k.seated + 1 }

-- the keeper's seat and the new CPU's, as the keeper's is cut in two

abbrev pub with_cpu_seated : View → View
with_cpu_seated v = Keeper (one_seated (keeper_of v))

abbrev pub next_seat : View → View
next_seat v = Cpu (new_cpu (keeper_of v).settings (keeper_of v).seated)

-- all words are 0 but the totals, which are the bias
pub record AreOpening (z : Settings) (words : List ℕ) : Type 0 where
  pub size : length words ≡ words_of z
  pub unused : (i : ℕ) → i < words_of z → ((t : ℕ) → t < z.slots → index z (total_of t) ≡ i → ⊥) → slice_index words i ≡ 0
  pub totals : (t : ℕ) → t < z.slots → slice_index words (index z (total_of t)) ≡ bias

-- the seat that CPU n gets, which did nothing and heard nothing
abbrev pub cpu_seat : TableId → Settings → ℕ → Seated CpuView
cpu_seat table z n = record { table = table; view = new_cpu z n; log = []; known_log = []; noted_log = []; teller = None; list = []; ends = [] }

-- the seats of the first n CPUs, CPU 0 first
pub record AreSeats (table : TableId) (z : Settings) (n : ℕ) (seats : List (Seated CpuView)) : Type 0 where
  pub count : length seats ≡ n
  pub each : (c : ℕ) → c < n → get_elem? seats c ≡ some (cpu_seat table z c)

-- the keeper's view where n CPUs have their seats, and it did nothing else
abbrev pub keeper_with : Settings → ℕ → KeeperView
keeper_with z n = record (new_keeper z) { seated = n }

-- Notes: what one seat has seen reaches another.

-- A seat that tells has the view that it had

abbrev pub as_before : View → View
as_before v = v

-- what a CPU's seat has seen is its pass, what the keeper's has is the history

abbrev pub pass_told : View → View
pass_told v = Note (cpu_of v).pass

abbrev pub history_told : View → View
history_told v = Note (keeper_of v).history

-- A seat that hears: first the note is laid beside its view

abbrev pub with_note : CpuView → List Change → CpuView
with_note x h = record x { noted_pass = h }

abbrev pub keeper_with_note : KeeperView → List Change → KeeperView
keeper_with_note k h = record k { noted_pass = h }

abbrev pub beside_cpu : View → View → View
beside_cpu v u = Cpu (with_note (cpu_of v) (note_of u))

abbrev pub beside_keeper : View → View → View
beside_keeper v u = Keeper (keeper_with_note (keeper_of v) (note_of u))

-- then a load sees the whole history: the pass is a longer prefix of it, with the note's pass in it
abbrev pub HasHeard : CpuView → CpuView → Type 0
HasHeard x y = IsPrefix x.noted_pass y.pass × IsPrefix x.pass y.pass × (y ≡ record x { pass = y.pass })

-- the keeper's view has the whole history, with the note's pass in it
abbrev pub KeeperHasHeard : KeeperView → KeeperView → Type 0
KeeperHasHeard k l = IsPrefix k.noted_pass l.history × (l ≡ k)

-- The load that hears is that event

abbrev pub CpuHears : CpuView → CpuView → Type 0
CpuHears x y = Makes (Hear (Some x.id)) Done (Cpu x) (Cpu y) × HasHeard x y

abbrev pub KeeperHears : KeeperView → KeeperView → Type 0
KeeperHears k l = Makes (Hear None) Done (Keeper k) (Keeper l) × KeeperHasHeard k l
