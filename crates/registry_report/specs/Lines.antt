-- The lines of a report.
use Rattle.std.specs.Prelude.{ℕ, ◌+◌, List, [], ◌∷◌, ◌++◌, map, Bool, true, false, Option, Some, None, codes}
use Rattle.std.specs.Fmt.{decimal, signed_decimal}
use Rattle.registry_values.specs.Common.{Tally}
use Rattle.registry_report.specs.Types.{Entry, Refusal, NoMemory, BadSettings, NameTaken, NoSlot, HistoryFull, NotFound, Inside, SectionsSpent, NothingFound, PassiveFull, WrongCpu, NotHeld, LocalFull}
use Rattle.registry_report.specs.Types.{NotRetired, MissingCpu, StillHeld, Waiting, TooDeep, NeedsDriver, Stage, Grace, Passive, Local, Freed}
use Rattle.registry_report.specs.declared.hitch.Hitch.{Hitch}
use Rattle.registry_report.specs.declared.hitch.Hitch.TheVariants.{NoLabel, LabelTaken, NotInside, Refused}

-- words, a space between each two, and the end of the line
abbrev pub line_of_words : List (List ℕ) → List ℕ
line_of_words [] = 10 ∷ []
line_of_words (word ∷ []) = word ++ 10 ∷ []
line_of_words (word ∷ next ∷ words) = word ++ 32 ∷ line_of_words (next ∷ words)

abbrev pub line_of_text : List ℕ → List ℕ
line_of_text text = line_of_words (text ∷ [])

abbrev pub domain_line : ℕ → ℕ → List ℕ
domain_line cpus slots = line_of_words (codes "domain" ∷ decimal cpus ∷ decimal slots ∷ [])

abbrev pub limits_line : ℕ → ℕ → ℕ → ℕ → List ℕ
limits_line changes sections passive count = line_of_words (codes "limits" ∷ decimal changes ∷ decimal sections ∷ decimal passive ∷ decimal count ∷ [])

abbrev pub attached_line : Entry → List ℕ
attached_line e = line_of_words (codes "attached" ∷ decimal e.number ∷ codes "slot" ∷ decimal e.slot ∷ [])

abbrev pub retired_line : Entry → List ℕ
retired_line e = line_of_words (codes "retired" ∷ decimal e.number ∷ codes "slot" ∷ decimal e.slot ∷ [])

abbrev pub found_line : Option Entry → List ℕ
found_line (Some e) = line_of_words (codes "found" ∷ decimal e.number ∷ codes "slot" ∷ decimal e.slot ∷ codes "value" ∷ decimal e.rec.value ∷ [])
found_line None = line_of_text (codes "none")

-- the section of the CPU stays open, or not
abbrev pub section_words : Bool → List ℕ
section_words true = codes "inside"
section_words false = codes "outside"

abbrev pub section_line : Bool → List ℕ
section_line stays = line_of_text (section_words stays)

-- the letter of a label
abbrev pub letter : ℕ → List ℕ
letter place = (97 + place) ∷ []

-- a word, a label, and the number of the entry that its reference is to
abbrev pub label_line : List ℕ → ℕ → ℕ → List ℕ
label_line word place number = line_of_words (word ∷ letter place ∷ decimal number ∷ [])

-- a copy is a reference, too
abbrev pub reference_line : ℕ → ℕ → List ℕ
reference_line place number = label_line (codes "ref") place number

abbrev pub released_line : ℕ → ℕ → List ℕ
released_line place number = label_line (codes "dropped") place number

abbrev pub counted_line : ℕ → ℕ → List ℕ
counted_line place number = label_line (codes "count") place number

abbrev pub uncounted_line : ℕ → ℕ → List ℕ
uncounted_line place number = label_line (codes "uncounted") place number

abbrev pub held_words : Bool → List ℕ
held_words true = codes "yes"
held_words false = codes "no"

abbrev pub held_line : Bool → List ℕ
held_line held = line_of_text (held_words held)

-- a word, and the number and the value of the entry that a reference is to
abbrev pub reading_line : List ℕ → ℕ → ℕ → List ℕ
reading_line word number value = line_of_words (word ∷ decimal number ∷ codes "value" ∷ decimal value ∷ [])

abbrev pub read_line : ℕ → ℕ → List ℕ
read_line number value = reading_line (codes "read") number value

abbrev pub peek_line : ℕ → ℕ → List ℕ
peek_line number value = reading_line (codes "peek") number value

abbrev pub destroyed_line : ℕ → List ℕ
destroyed_line slot = line_of_words (codes "destroyed" ∷ codes "slot" ∷ decimal slot ∷ [])

abbrev pub performed_line : List ℕ
performed_line = line_of_text (codes "performed")

-- a CPU's net count may be negative, and so may the total
abbrev pub balance_line : Tally → List ℕ
balance_line t = line_of_words (codes "slot" ∷ decimal t.slot ∷ codes "number" ∷ decimal t.number ∷ codes "held" ∷ signed_decimal t.held ∷ codes "locals" ∷ map signed_decimal t.locals
    ++ codes "total" ∷ signed_decimal t.total ∷ [])

abbrev pub balance_lines : List Tally → List ℕ
balance_lines [] = []
balance_lines (t ∷ ts) = balance_line t ++ balance_lines ts

-- a line for each, in order
abbrev pub audit_text : List Tally → List ℕ
audit_text [] = line_of_text (codes "empty")
audit_text (t ∷ ts) = balance_lines (t ∷ ts)

abbrev pub stage_words : Stage → List (List ℕ)
stage_words (Grace cpu) = codes "grace" ∷ codes "cpu" ∷ decimal cpu ∷ []
stage_words (Passive cpu) = codes "passive" ∷ codes "cpu" ∷ decimal cpu ∷ []
stage_words (Local held) = codes "local" ∷ decimal held ∷ []
stage_words (Freed slot) = codes "freed" ∷ codes "slot" ∷ decimal slot ∷ []

-- the name of a refusal, and what it carries
abbrev pub refusal_words : Refusal → List (List ℕ)
refusal_words NoMemory = codes "NoMemory" ∷ []
refusal_words BadSettings = codes "BadSettings" ∷ []
refusal_words NameTaken = codes "NameTaken" ∷ []
refusal_words NoSlot = codes "NoSlot" ∷ []
refusal_words HistoryFull = codes "HistoryFull" ∷ []
refusal_words NotFound = codes "NotFound" ∷ []
refusal_words Inside = codes "Inside" ∷ []
refusal_words SectionsSpent = codes "SectionsSpent" ∷ []
refusal_words NothingFound = codes "NothingFound" ∷ []
refusal_words PassiveFull = codes "PassiveFull" ∷ []
refusal_words WrongCpu = codes "WrongCpu" ∷ []
refusal_words NotHeld = codes "NotHeld" ∷ []
refusal_words LocalFull = codes "LocalFull" ∷ []
refusal_words NotRetired = codes "NotRetired" ∷ []
refusal_words MissingCpu = codes "MissingCpu" ∷ []
refusal_words (StillHeld stage) = codes "StillHeld" ∷ stage_words stage
refusal_words (Waiting cpu) = codes "Waiting" ∷ codes "cpu" ∷ decimal cpu ∷ []
refusal_words TooDeep = codes "TooDeep" ∷ []
refusal_words NeedsDriver = codes "NeedsDriver" ∷ []

abbrev pub refused_line : Refusal → List ℕ
refused_line refusal = line_of_words (codes "refused" ∷ refusal_words refusal)

abbrev pub stage_line : Stage → List ℕ
stage_line stage = line_of_words (stage_words stage)

-- why a command has no answer
abbrev pub hitch_line : Hitch → List ℕ
hitch_line NoLabel = line_of_words (codes "no" ∷ codes "label" ∷ [])
hitch_line LabelTaken = line_of_words (codes "label" ∷ codes "taken" ∷ [])
hitch_line NotInside = line_of_words (codes "not" ∷ codes "inside" ∷ [])
hitch_line (Refused refusal) = refused_line refusal

-- words, a space before each
abbrev pub spaced_words : List (List ℕ) → List ℕ
spaced_words [] = []
spaced_words (word ∷ words) = 32 ∷ word ++ spaced_words words
