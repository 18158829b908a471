-- What C lends a call by each kind of pointer, to read or to write until it returns, or nothing, by null.
use Rattle.std.specs.Prelude.{ℕ, List, Option, Bool}
use base.Fml.{Share, Fml}
use denote.Builtin.{u8, bool, u64}
use denote.RawPtr.{Ptr}
use base.Fraction.{full_share}
use Rattle.c_handles.specs.Heap.{lends, lends_row}
use Rattle.c_handles.specs.declared.values.plain.CName.{CName}
use Rattle.c_handles.specs.declared.values.plain.CSettings.{CSettings}
use Rattle.c_handles.specs.contracts.values.plain.CName.{the_row, the_row as name}
use Rattle.c_handles.specs.contracts.values.plain.CSettings.{the_row as settings}
use Rattle.c_handles.specs.declared.values.plain.CEntry.{CEntry}
use Rattle.c_handles.specs.declared.values.wait.CWait.{CWait}
use Rattle.c_handles.specs.contracts.values.wait.CWait.{the_row as wait}
use Rattle.c_handles.specs.contracts.values.plain.CEntry.{the_row as entry}
use Rattle.c_handles.specs.declared.values.plain.CStage.{CStage}
use Rattle.c_handles.specs.contracts.values.plain.CStage.{the_row as stage}
use Rattle.c_handles.specs.declared.values.plain.CBalance.{CBalance}
use Rattle.c_handles.specs.contracts.values.plain.CBalance.{the_row as balance}

abbrev pub gives_name : Share → Ptr → Option CName → Fml
gives_name = lends the_row

abbrev pub gives_settings : Share → Ptr → Option CSettings → Fml
gives_settings = lends settings

abbrev pub gives_entry : Share → Ptr → Option CEntry → Fml
gives_entry = lends entry

abbrev pub gives_bytes : Share → Ptr → Option (List ℕ) → Fml
gives_bytes = lends_row u8

-- What C lends a call by each kind of pointer: a value that the call may write until it returns, or nothing, by null.

abbrev pub lends_flag : Ptr → Option Bool → Fml
lends_flag = lends bool full_share

abbrev pub lends_number : Ptr → Option ℕ → Fml
lends_number = lends u64 full_share

abbrev pub lends_entry : Ptr → Option CEntry → Fml
lends_entry = lends entry full_share

abbrev pub lends_settings : Ptr → Option CSettings → Fml
lends_settings = lends settings full_share

abbrev pub lends_stage : Ptr → Option CStage → Fml
lends_stage = lends stage full_share

abbrev pub lends_name : Ptr → Option CName → Fml
lends_name = lends name full_share

abbrev pub lends_wait : Ptr → Option CWait → Fml
lends_wait = lends wait full_share

-- by a pointer beside its length: that many of them, or none

abbrev pub lends_text : Ptr → Option (List ℕ) → Fml
lends_text = lends_row u8 full_share

abbrev pub lends_entries : Ptr → Option (List CEntry) → Fml
lends_entries = lends_row entry full_share

abbrev pub lends_balances : Ptr → Option (List CBalance) → Fml
lends_balances = lends_row balance full_share
