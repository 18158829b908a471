-- Lines, words and numbers.
use Rattle.std.specs.Prelude.{ℕ, ◌==◌, ◌^◌, nat_lt, nat_le, Bool, not, ◌&&◌, List, [], ◌∷◌, length, filter, Option, Some, None, if◌then◌else◌, codes}
use Rattle.std.specs.List.{slice_split, list_all}
use Rattle.std.specs.Char.{is_ascii_digit}
use Rattle.std.specs.Str.{bytes_eq}
use Rattle.std.specs.Str.Parse.{digits_value}
use Rattle.registry_language.specs.declared.command.Verb.{Verb}
use Rattle.registry_language.specs.declared.command.Verb.TheVariants.{Domain, Limits, Attach, Plug, Detach, Enter, Exit, Find, Reference, Copy, Held, Read, Release, Count, Peek, Uncount, Advance}
use Rattle.registry_language.specs.declared.command.Verb.TheVariants.{Destroy, Perform, Audit}

-- a line ends at a byte 10
abbrev pub lines_of : List ℕ → List (List ℕ)
lines_of text = slice_split (λ b. b == 10) text

-- words are separated by one or more spaces
abbrev pub words_in_line : List ℕ → List (List ℕ)
words_in_line line = filter (λ w. not (length w == 0)) (slice_split (λ b. b == 32) line)

abbrev pub is_numeral : List ℕ → Bool
is_numeral w = nat_le 1 (length w) && nat_le (length w) 20 && list_all is_ascii_digit w

abbrev pub within_u64 : ℕ → Option ℕ
within_u64 n = if nat_lt n (2 ^ 64) then Some n else None

-- 1 to 20 digits, of a value below 2^64
abbrev pub number_of : List ℕ → Option ℕ
number_of w = if is_numeral w then within_u64 (digits_value 10 w) else None

-- the commands that give the settings and those on entries, each with the word that names it
abbrev pub entry_verbs : List (List ℕ × Verb)
entry_verbs =
    (codes "domain", Domain) ∷ (codes "limits", Limits) ∷
    (codes "attach", Attach) ∷ (codes "plug", Plug) ∷ (codes "detach", Detach) ∷
    (codes "advance", Advance) ∷ (codes "destroy", Destroy) ∷ []

-- those on sections, and on the registry as a whole
abbrev pub section_verbs : List (List ℕ × Verb)
section_verbs =
    (codes "enter", Enter) ∷ (codes "exit", Exit) ∷ (codes "find", Find) ∷ (codes "perform", Perform) ∷ (codes "audit", Audit) ∷ []

-- those on passive references
abbrev pub passive_verbs : List (List ℕ × Verb)
passive_verbs =
    (codes "ref", Reference) ∷ (codes "copy", Copy) ∷ (codes "held", Held) ∷ (codes "read", Read) ∷ (codes "drop", Release) ∷ []

-- those on local references
abbrev pub local_verbs : List (List ℕ × Verb)
local_verbs = (codes "count", Count) ∷ (codes "peek", Peek) ∷ (codes "uncount", Uncount) ∷ []

-- the first command of the list that a word names
abbrev pub verb_among : List (List ℕ × Verb) → List ℕ → Option Verb
verb_among [] w = None
verb_among ((word, verb) ∷ rest) w = if bytes_eq w word then Some verb else verb_among rest w

abbrev pub or_else : {A : Type 0} → Option A → Option A → Option A
or_else None other = other
or_else (Some x) other = Some x

-- the command that a word names
abbrev pub verb_of : List ℕ → Option Verb
verb_of w = or_else (verb_among entry_verbs w) (or_else (verb_among section_verbs w) (or_else (verb_among passive_verbs w) (verb_among local_verbs w)))
