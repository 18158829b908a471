-- Local references: how their plain data agree with what the seat knows.
use Rattle.std.specs.Prelude.{◌≡◌, ℕ, ◌<◌}
use Rattle.atomic_table.specs.Seated.{TableId}
use Rattle.passive_list.specs.Types.{Kind, MOST_SLOTS, ReferenceView}

-- a reference that names its own table: that table, and what its seat knows
pub record OnPlainRef : Type 0 where
  pub table : TableId
  pub reference : ReferenceView

-- the fields of a reference: what its seat knows, and the number, slot and kind of its entry
pub record IsOurReference (v : ReferenceView) (n s : ℕ) (k : Kind) : Type 0 where
  pub number : v.entry.number ≡ n
  pub slot : v.entry.slot ≡ s
  pub kind : v.entry.rec.kind ≡ k
  pub begun : 0 < n
  pub few : s < MOST_SLOTS
