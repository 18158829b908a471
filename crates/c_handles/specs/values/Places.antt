-- What is written to a place, and the places as types.
use Rattle.std.specs.Prelude.{◌≡◌, ◌≢◌, ℕ, Bool, List, [], Option, Some, None}
use denote.RattleType.{RattleType}
use Rattle.c_handles.specs.declared.values.place.FlagPlace.{FlagPlace}
use Rattle.c_handles.specs.declared.values.place.NumberPlace.{NumberPlace}
use Rattle.c_handles.specs.declared.values.place.EntryPlace.{EntryPlace}
use Rattle.c_handles.specs.declared.values.place.SettingsPlace.{SettingsPlace}
use Rattle.c_handles.specs.declared.values.place.StagePlace.{StagePlace}
use Rattle.c_handles.specs.declared.values.place.NamePlace.{NamePlace}
use Rattle.c_handles.specs.declared.values.place.WaitPlace.{WaitPlace}
use Rattle.c_handles.specs.declared.values.rows.TextPlace.{TextPlace}
use Rattle.c_handles.specs.declared.values.rows.EntriesPlace.{EntriesPlace}
use Rattle.c_handles.specs.declared.values.rows.BalancesPlace.{BalancesPlace}
use Rattle.c_handles.specs.declared.values.plain.CBalance.{CBalance}
use Rattle.c_handles.specs.declared.values.plain.CEntry.{CEntry}
use Rattle.c_handles.specs.declared.values.plain.CName.{CName}
use Rattle.c_handles.specs.declared.values.plain.CStage.{CStage}
use Rattle.c_handles.specs.declared.values.plain.CSettings.{CSettings}
use Rattle.c_handles.specs.declared.values.wait.CWait.{CWait}
use Rattle.c_handles.specs.contracts.values.place.FlagPlace.{the_row as flag_row}
use Rattle.c_handles.specs.contracts.values.place.NumberPlace.{the_row as number_row}
use Rattle.c_handles.specs.contracts.values.place.EntryPlace.{the_row as place_row}
use Rattle.c_handles.specs.contracts.values.place.SettingsPlace.{the_row as place_of_settings}
use Rattle.c_handles.specs.contracts.values.place.StagePlace.{the_row as place_of_stage}
use Rattle.c_handles.specs.contracts.values.place.NamePlace.{the_row as place_of_name}
use Rattle.c_handles.specs.contracts.values.place.WaitPlace.{the_row as place_of_wait}
use Rattle.c_handles.specs.contracts.values.rows.TextPlace.{the_row as place_of_text}
use Rattle.c_handles.specs.contracts.values.rows.EntriesPlace.{the_row as place_of_entries}
use Rattle.c_handles.specs.contracts.values.rows.BalancesPlace.{the_row as place_of_balances}
use Rattle.c_handles.specs.contracts.values.plain.CBalance.{the_row as row_of_balance}
use Rattle.c_handles.specs.contracts.values.plain.CEntry.{the_row as row_of_entry}
use Rattle.c_handles.specs.contracts.values.plain.CName.{the_row as row_of_name}
use Rattle.c_handles.specs.contracts.values.plain.CStage.{the_row as row_of_stage}
use Rattle.c_handles.specs.contracts.values.plain.CSettings.{the_row as row_of_settings}
use Rattle.c_handles.specs.contracts.values.wait.CWait.{the_row as row_of_wait}

-- the place once x was written there; null stays null
abbrev pub put : {X : Type 0} → Option X → X → Option X
put None x = None
put (Some y) x = Some x

-- the row that there is: at null an empty one
abbrev pub row_in : {X : Type 0} → Option (List X) → List X
row_in None = []
row_in (Some xs) = xs

-- What a call does that is lent a row beside its length. At null there is none: the call is refused where it should have a length, and else does what
-- it does with an empty one.
abbrev pub DoesBy : {X : Type 0} → ℕ → Option (List X) → Option (List X) → Type 0 → (List X → List X → Type 0) → Type 0
DoesBy n None after refused does = (after ≡ None) × (n ≢ 0 → refused) × (n ≡ 0 → does [] [])
DoesBy {X} n (Some old) after refused does = (new : List X) × (after ≡ Some new) × does old new

-- Each kind of place, with that at it, and its type

abbrev pub filled_flag : FlagPlace → Bool → FlagPlace
filled_flag p x = record { at = p.at; value = Some x }

abbrev pub flag_place : RattleType
flag_place = flag_row

abbrev pub filled_number : NumberPlace → ℕ → NumberPlace
filled_number p x = record { at = p.at; value = Some x }

abbrev pub number_place : RattleType
number_place = number_row

abbrev pub filled_entry : EntryPlace → CEntry → EntryPlace
filled_entry p x = record { at = p.at; value = Some x }

abbrev pub entry_place : RattleType
entry_place = place_row

abbrev pub entry_row : RattleType
entry_row = row_of_entry

abbrev pub filled_settings : SettingsPlace → CSettings → SettingsPlace
filled_settings p x = record { at = p.at; value = Some x }

abbrev pub settings_place : RattleType
settings_place = place_of_settings

abbrev pub settings_row : RattleType
settings_row = row_of_settings

abbrev pub filled_stage : StagePlace → CStage → StagePlace
filled_stage p x = record { at = p.at; value = Some x }

abbrev pub stage_place : RattleType
stage_place = place_of_stage

abbrev pub stage_row : RattleType
stage_row = row_of_stage

abbrev pub filled_name : NamePlace → CName → NamePlace
filled_name p x = record { at = p.at; value = Some x }

abbrev pub name_place : RattleType
name_place = place_of_name

abbrev pub name_row : RattleType
name_row = row_of_name

abbrev pub filled_wait : WaitPlace → CWait → WaitPlace
filled_wait p x = record { at = p.at; value = Some x }

abbrev pub wait_place : RattleType
wait_place = place_of_wait

abbrev pub wait_row : RattleType
wait_row = row_of_wait

abbrev pub filled_text : TextPlace → List ℕ → TextPlace
filled_text p xs = record { at = p.at; value = Some xs }

abbrev pub text_place : RattleType
text_place = place_of_text

abbrev pub filled_entries : EntriesPlace → List CEntry → EntriesPlace
filled_entries p xs = record { at = p.at; value = Some xs }

abbrev pub entries_place : RattleType
entries_place = place_of_entries

abbrev pub filled_balances : BalancesPlace → List CBalance → BalancesPlace
filled_balances p xs = record { at = p.at; value = Some xs }

abbrev pub balances_place : RattleType
balances_place = place_of_balances

abbrev pub balance_row : RattleType
balance_row = row_of_balance
