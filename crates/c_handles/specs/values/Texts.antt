-- What crosses to C by the registry's own values: entries, settings, names from bytes, and what an answer says.
use Rattle.std.specs.Prelude.{ℕ, ◌==◌, if◌then◌else◌, Option, Some, None, Result, Ok, Err, ◌≡◌, ◌≢◌, ◌⊎◌, ◌-◌, ◌<◌, ◌≤◌, List, length, get_or, ◌%◌, ◌^◌, take}
use Rattle.c_handles.specs.Types.{Entry, Kind, Iface, Driver, Name, Refusal, Settings, Stage, Grace, Passive, Local, Freed}
use Rattle.registry_values.specs.Common.{number_of_refusal, kind_word, key_of_words, bytes_of}
use Rattle.registry_values.specs.Names.{id_of_name, key_of_bytes}
use Rattle.c_handles.specs.declared.values.plain.TheConstants.{DONE, NAME_TOO_LONG, BAD_NAME, NULL, NO_ROOM}
use Rattle.c_handles.specs.declared.values.plain.CEntry.{CEntry}
use Rattle.c_handles.specs.declared.values.plain.CName.{CName}
use Rattle.c_handles.specs.declared.values.plain.CPassive.{CPassive}
use Rattle.c_handles.specs.declared.values.plain.CSettings.{CSettings}
use Rattle.c_handles.specs.declared.values.plain.CStage.{CStage}
use Rattle.c_handles.specs.values.Places.{put, DoesBy}

-- the number of an answer
abbrev pub number_of : {X : Type 0} → Result X Refusal → ℕ
number_of (Ok x) = DONE
number_of (Err refusal) = number_of_refusal refusal

-- the kind of a word
abbrev pub kind_in : ℕ → Option Kind
kind_in word = if word == 1 then Some Iface else (if word == 2 then Some Driver else None)

-- From C, and to C

abbrev pub name_in : CName → Name
name_in n = record { high = n.high; low = n.low }

abbrev pub name_out : Name → CName
name_out n = record { high = n.high; low = n.low }

abbrev pub settings_in : CSettings → Settings
settings_in z = record { cpus = z.cpus; slots = z.slots; change_limit = z.change_limit; section_limit = z.section_limit; passive_limit = z.passive_limit; count_limit = z.count_limit }

abbrev pub settings_out : Settings → CSettings
settings_out z = record { cpus = z.cpus; slots = z.slots; change_limit = z.change_limit; section_limit = z.section_limit; passive_limit = z.passive_limit; count_limit = z.count_limit }

abbrev pub entry_out : Entry → CEntry
entry_out e = record { number = e.number; slot = e.slot; kind = kind_word e.rec.kind; name = name_out e.rec.name; value = e.rec.value }

-- C's number for the kind of an entry that C gives: the low half of its word
abbrev pub kind_given : CEntry → ℕ
kind_given e = e.kind % 2 ^ 32

-- that entry again, with nothing in the high half
abbrev pub entry_again : CEntry → CEntry
entry_again e = record e { kind = kind_given e }

abbrev pub passive_again : CPassive → CPassive
passive_again p = record p { entry = entry_again p.entry }

-- the entry that C's {0} is: none, as its number is 0
abbrev pub no_entry : CEntry
no_entry = record { number = 0; slot = 0; kind = 0; name = record { high = 0; low = 0 }; value = 0 }

-- the reference that C's {0} is
abbrev pub no_passive : CPassive
no_passive = record { entry = no_entry; cpu = 0 }

abbrev pub stage_out : Stage → CStage
stage_out (Grace cpu) = record { stage = 0; what = cpu }
stage_out (Passive cpu) = record { stage = 1; what = cpu }
stage_out (Local held) = record { stage = 2; what = held }
stage_out (Freed slot) = record { stage = 3; what = slot }

-- Names from bytes, and from ids.

-- What is answered and written of bytes: the name that they are, if there is one.
pub record NamesRow (bytes : List ℕ) (n : ℕ) (old new : Option CName) : Type 0 where
  pub long : 16 < length bytes → (n ≡ NAME_TOO_LONG) × (new ≡ old)
  pub bad : length bytes ≤ 16 → key_of_bytes bytes ≡ None → (n ≡ BAD_NAME) × (new ≡ old)
  pub good : (m : Name) → key_of_bytes bytes ≡ Some m → (n ≡ DONE) × (new ≡ put old (name_out m))

-- of bytes that were given, at a place
pub record NamesBytes (given : Option (List ℕ)) (n : ℕ) (old new : Option CName) : Type 0 where
  pub null : (given ≡ None) ⊎ (old ≡ None) → (n ≡ NULL) × (new ≡ old)
  pub there : (bytes : List ℕ) (was : CName) → given ≡ Some bytes → old ≡ Some was → NamesRow bytes n old new

-- what is answered and written of the id that a name has
abbrev pub WritesId : Option ℕ → ℕ → Option ℕ → Option ℕ → Type 0
WritesId None n id id' = (n ≡ BAD_NAME) × (id' ≡ id)
WritesId (Some found) n id id' = (n ≡ DONE) × (id' ≡ put id found)

-- of a name that was given: at null there is none
abbrev pub TellsId : Option CName → ℕ → Option ℕ → Option ℕ → Type 0
TellsId None n id id' = (n ≡ NULL) × (id' ≡ id)
TellsId (Some name) n id id' = WritesId (id_of_name (name_in name)) n id id'

-- The bytes of a name, as a text.

-- a text is written, and a zero after it
pub record IsWritten (t old new : List ℕ) : Type 0 where
  pub text : (k : ℕ) → k < length t → get_or new k 0 ≡ get_or t k 0
  pub zero : get_or new (length t) 0 ≡ 0
  pub rest : (k : ℕ) → length t < k → get_or new k 0 ≡ get_or old k 0

-- nothing, if there is no room for all of it
pub record WritesText (t : List ℕ) (n : ℕ) (old new : List ℕ) : Type 0 where
  pub short : length old ≤ length t → (n ≡ NO_ROOM) × (new ≡ old)
  pub enough : length t < length old → (n ≡ DONE) × IsWritten t old new

-- so many bytes lead up to the last one that isn't 0
pub record IsTextLength (bytes : List ℕ) (n : ℕ) : Type 0 where
  pub few : n ≤ 16
  pub zeros : (k : ℕ) → n ≤ k → get_or bytes k 0 ≡ 0
  pub last : 0 < n → get_or bytes (n - 1) 0 ≢ 0

-- two words as the text that they are, if they are a name
pub record Formats (name : CName) (n : ℕ) (old new : List ℕ) : Type 0 where
  pub bad : key_of_words name.high name.low ≡ None → (n ≡ BAD_NAME) × (new ≡ old)
  pub good : (m : Name) → key_of_words name.high name.low ≡ Some m
      → (size : ℕ) × IsTextLength (bytes_of name.high name.low) size × WritesText (take size (bytes_of name.high name.low)) n old new

-- of a name that was given, at a place of so many bytes
abbrev pub FormatsBy : Option CName → ℕ → Option (List ℕ) → Option (List ℕ) → ℕ → Type 0
FormatsBy None room text after n = (n ≡ NULL) × (after ≡ text)
FormatsBy (Some name) room text after n = DoesBy room text after (n ≡ NULL) (λ old new. Formats name n old new)
