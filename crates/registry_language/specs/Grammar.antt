-- The grammar, by cases on the words of a line, and the first fault.
use Rattle.std.specs.Prelude.{ℕ, ◌+◌, ◌-◌, ◌==◌, nat_lt, Bool, false, ◌||◌, List, [], ◌∷◌, length, Option, Some, None, Result, Ok, Err, if◌then◌else◌, codes}
use Rattle.std.specs.List.{list_any}
use Rattle.std.specs.Char.{is_ascii_lowercase}
use Rattle.std.specs.Str.{bytes_eq}
use Rattle.registry_values.specs.declared.settings.Settings.{Settings}
use Rattle.registry_values.specs.Common.{are_usual, name_of_bytes}
use Rattle.registry_values.specs.declared.entry.Kind.{Kind}
use Rattle.registry_values.specs.declared.entry.Kind.TheVariants.{Iface, Driver}
use Rattle.registry_values.specs.declared.name.Name.{Name}
use Rattle.registry_values.specs.declared.name.NameFault.{NameFault}
use Rattle.registry_language.specs.declared.label.Label.{Label}
use Rattle.registry_language.specs.declared.position.Position.{Position}
use Rattle.registry_language.specs.declared.position.Position.TheVariants.{First, Second, Later}
use Rattle.registry_language.specs.declared.command.Verb.{Verb}
use Rattle.registry_language.specs.declared.command.Verb.TheVariants as verbs
use Rattle.registry_language.specs.declared.command.Command.{Command}
use Rattle.registry_language.specs.declared.command.Command.TheVariants.{Domain, Limits, Attach, Plug, Detach, Enter, Exit, Find, Reference, Copy, Held, Read, Release, Count, Peek, Uncount, Advance}
use Rattle.registry_language.specs.declared.command.Command.TheVariants.{Destroy, Perform, Audit}
use Rattle.registry_language.specs.declared.fault.Cause.{Cause}
use Rattle.registry_language.specs.declared.fault.Cause.TheVariants.{TooLong, LongLine, BadByte, UnknownCommand, Misplaced, WrongCount, BadNumber, BadCpu, BadKind, BadName, BadLabel, BadSettings}
use Rattle.registry_language.specs.declared.fault.Cause.TheVariants.{NoDomain}
use Rattle.registry_language.specs.declared.fault.ScriptFault.{ScriptFault}
use Rattle.registry_language.specs.Words.{lines_of, words_in_line, number_of, verb_of}
use Rattle.registry_language.specs.Program.{Program, ProgramDraft, empty_draft, settings_for, with_limits, are_turns, with_command}

infixl 10 ◌>>=◌
abbrev pub ◌>>=◌ : {A B E : Type 0} → Result A E → (A → Result B E) → Result B E
(Ok x) >>= f = f x
(Err e) >>= f = Err e

abbrev pub or_cause : {A : Type 0} → Option A → Cause → Result A Cause
or_cause None cause = Err cause
or_cause (Some x) cause = Ok x

abbrev pub cpu_below : ℕ → ℕ → Result ℕ Cause
cpu_below cpus n = if nat_lt n cpus then Ok n else Err BadCpu

-- a CPU: a number below the first one of domain
unfoldable pub cpu_of : ℕ → List ℕ → Result ℕ Cause
cpu_of cpus word = do
  n ← or_cause (number_of word) BadCpu
  cpu_below cpus n

abbrev pub kind_from_text : List ℕ → Result Kind Cause
kind_from_text word = if bytes_eq word (codes "iface") then Ok Iface else (if bytes_eq word (codes "driver") then Ok Driver else Err BadKind)

abbrev pub name_if : Result Name NameFault → Result Name Cause
name_if (Ok name) = Ok name
name_if (Err fault) = Err BadName

abbrev pub turns_if : ℕ → Result ℕ Cause
turns_if n = if are_turns n then Ok n else Err BadNumber

-- turns: a number from 1 to 1000
unfoldable pub turns_of : List ℕ → Result ℕ Cause
turns_of word = do
  n ← or_cause (number_of word) BadNumber
  turns_if n

-- a label: one letter from a to z
abbrev pub label_of : List ℕ → Result Label Cause
label_of (b ∷ []) = if is_ascii_lowercase b then Ok (record { place = b - 97 }) else Err BadLabel
label_of _ = Err BadLabel

-- settings out of their ranges come after all other causes
abbrev pub fit_command : Settings → Command → Result Command Cause
fit_command s command = if are_usual s then Ok command else Err BadSettings

unfoldable pub domain_of : List (List ℕ) → Result Command Cause
domain_of (cpus ∷ slots ∷ []) = do
  c ← or_cause (number_of cpus) BadNumber
  s ← or_cause (number_of slots) BadNumber
  fit_command (settings_for c s) (Domain c s)
domain_of _ = Err WrongCount

-- word by word from the left
unfoldable pub limits_words : Settings → List ℕ → List ℕ → List ℕ → List ℕ → Result Command Cause
limits_words s changes sections passive count = do
  ch ← or_cause (number_of changes) BadNumber
  se ← or_cause (number_of sections) BadNumber
  pa ← or_cause (number_of passive) BadNumber
  co ← or_cause (number_of count) BadNumber
  fit_command (with_limits s ch se pa co) (Limits ch se pa co)

abbrev pub limits_of : Settings → List (List ℕ) → Result Command Cause
limits_of s (changes ∷ sections ∷ passive ∷ count ∷ []) = limits_words s changes sections passive count
limits_of s _ = Err WrongCount

unfoldable pub attach_words : Settings → List ℕ → List ℕ → List ℕ → List ℕ → Result Command Cause
attach_words s cpu kind name value = do
  c ← cpu_of s.cpus cpu
  k ← kind_from_text kind
  n ← name_if (name_of_bytes name)
  v ← or_cause (number_of value) BadNumber
  Ok (Attach c (record { kind = k; name = n; value = v }))

abbrev pub attach_of : Settings → List (List ℕ) → Result Command Cause
attach_of s (cpu ∷ kind ∷ name ∷ value ∷ []) = attach_words s cpu kind name value
attach_of s _ = Err WrongCount

-- what is plugged in is an interface
unfoldable pub plug_words : Settings → List ℕ → List ℕ → List ℕ → List ℕ → Result Command Cause
plug_words s cpu name value label = do
  c ← cpu_of s.cpus cpu
  n ← name_if (name_of_bytes name)
  v ← or_cause (number_of value) BadNumber
  x ← label_of label
  Ok (Plug c (record { kind = Iface; name = n; value = v }) x)

abbrev pub plug_of : Settings → List (List ℕ) → Result Command Cause
plug_of s (cpu ∷ name ∷ value ∷ label ∷ []) = plug_words s cpu name value label
plug_of s _ = Err WrongCount

unfoldable pub copy_words : Settings → List ℕ → List ℕ → List ℕ → Result Command Cause
copy_words s cpu source target = do
  c ← cpu_of s.cpus cpu
  a ← label_of source
  b ← label_of target
  Ok (Copy c a b)

abbrev pub copy_of : Settings → List (List ℕ) → Result Command Cause
copy_of s (cpu ∷ source ∷ target ∷ []) = copy_words s cpu source target
copy_of s _ = Err WrongCount

unfoldable pub peek_of : List (List ℕ) → Result Command Cause
peek_of (label ∷ []) = do
  x ← label_of label
  Ok (Peek x)
peek_of _ = Err WrongCount

unfoldable pub advance_of : List (List ℕ) → Result Command Cause
advance_of (number ∷ []) = do
  n ← or_cause (number_of number) BadNumber
  Ok (Advance n)
advance_of _ = Err WrongCount

unfoldable pub destroy_words : Settings → List ℕ → List ℕ → List ℕ → Result Command Cause
destroy_words s cpu number turns = do
  c ← cpu_of s.cpus cpu
  n ← or_cause (number_of number) BadNumber
  t ← turns_of turns
  Ok (Destroy c n t)

abbrev pub destroy_of : Settings → List (List ℕ) → Result Command Cause
destroy_of s (cpu ∷ number ∷ turns ∷ []) = destroy_words s cpu number turns
destroy_of s _ = Err WrongCount

unfoldable pub perform_words : Settings → List ℕ → List ℕ → Result Command Cause
perform_words s cpu turns = do
  c ← cpu_of s.cpus cpu
  t ← turns_of turns
  Ok (Perform c t)

abbrev pub perform_of : Settings → List (List ℕ) → Result Command Cause
perform_of s (cpu ∷ turns ∷ []) = perform_words s cpu turns
perform_of s _ = Err WrongCount

abbrev pub audit_of : List (List ℕ) → Result Command Cause
audit_of [] = Ok Audit
audit_of _ = Err WrongCount

-- The shapes that several commands have: of each its words, and the command that they make

unfoldable pub cpu_alone_of : Settings → List (List ℕ) → Result ℕ Cause
cpu_alone_of s (cpu ∷ []) = cpu_of s.cpus cpu
cpu_alone_of s _ = Err WrongCount

unfoldable pub cpu_key_words : Settings → List ℕ → List ℕ → List ℕ → Result (ℕ × Kind × Name) Cause
cpu_key_words s cpu kind name = do
  c ← cpu_of s.cpus cpu
  k ← kind_from_text kind
  n ← name_if (name_of_bytes name)
  Ok (c, k, n)

abbrev pub cpu_key_of : Settings → List (List ℕ) → Result (ℕ × Kind × Name) Cause
cpu_key_of s (cpu ∷ kind ∷ name ∷ []) = cpu_key_words s cpu kind name
cpu_key_of s _ = Err WrongCount

unfoldable pub cpu_label_words : Settings → List ℕ → List ℕ → Result (ℕ × Label) Cause
cpu_label_words s cpu label = do
  c ← cpu_of s.cpus cpu
  x ← label_of label
  Ok (c, x)

abbrev pub cpu_label_of : Settings → List (List ℕ) → Result (ℕ × Label) Cause
cpu_label_of s (cpu ∷ label ∷ []) = cpu_label_words s cpu label
cpu_label_of s _ = Err WrongCount

abbrev pub by_cpu : (ℕ → Command) → Settings → List (List ℕ) → Result Command Cause
by_cpu made s words = cpu_alone_of s words >>= λ c. Ok (made c)

abbrev pub by_key : (ℕ → Kind → Name → Command) → Settings → List (List ℕ) → Result Command Cause
by_key made s words = cpu_key_of s words >>= λ p. Ok (made p.0 p.1 p.2)

abbrev pub by_label : (ℕ → Label → Command) → Settings → List (List ℕ) → Result Command Cause
by_label made s words = cpu_label_of s words >>= λ p. Ok (made p.0 p.1)

-- domain comes first
abbrev pub first_of : Verb → List (List ℕ) → Result Command Cause
first_of verbs.Domain words = domain_of words
first_of _ words = Err Misplaced

-- a command after those that may only come first or second
abbrev pub later_of : Settings → Verb → List (List ℕ) → Result Command Cause
later_of s verbs.Domain words = Err Misplaced
later_of s verbs.Limits words = Err Misplaced
later_of s verbs.Attach words = attach_of s words
later_of s verbs.Plug words = plug_of s words
later_of s verbs.Detach words = by_key Detach s words
later_of s verbs.Enter words = by_cpu Enter s words
later_of s verbs.Exit words = by_cpu Exit s words
later_of s verbs.Find words = by_key Find s words
later_of s verbs.Reference words = by_label Reference s words
later_of s verbs.Copy words = copy_of s words
later_of s verbs.Held words = by_label Held s words
later_of s verbs.Read words = by_label Read s words
later_of s verbs.Release words = by_label Release s words
later_of s verbs.Count words = by_label Count s words
later_of s verbs.Peek words = peek_of words
later_of s verbs.Uncount words = by_label Uncount s words
later_of s verbs.Advance words = advance_of words
later_of s verbs.Destroy words = destroy_of s words
later_of s verbs.Perform words = perform_of s words
later_of s verbs.Audit words = audit_of words

-- limits come second, if at all
abbrev pub second_of : Settings → Verb → List (List ℕ) → Result Command Cause
second_of s verbs.Limits words = limits_of s words
second_of s verb words = later_of s verb words

abbrev pub command_at : Position → Verb → List (List ℕ) → Result Command Cause
command_at First verb words = first_of verb words
command_at (Second s) verb words = second_of s verb words
command_at (Later s) verb words = later_of s verb words

abbrev pub command_of : Position → Option Verb → List (List ℕ) → Result Command Cause
command_of place None words = Err UnknownCommand
command_of place (Some verb) words = command_at place verb words

abbrev pub is_comment : List ℕ → Bool
is_comment [] = false
is_comment (b ∷ bs) = b == 35

unfoldable pub said : Position → List (List ℕ) → Result (Option Command) Cause
said place [] = Ok None
said place (first ∷ words) = if is_comment first then Ok None else (command_of place (verb_of first) words >>= λ c. Ok (Some c))

abbrev pub is_bad_byte : ℕ → Bool
is_bad_byte b = nat_lt b 32 || nat_lt 126 b

-- what a line says
unfoldable pub line_of : Position → List ℕ → Result (Option Command) Cause
line_of place line = if nat_lt 120 (length line) then Err LongLine else (if list_any is_bad_byte line then Err BadByte else said place (words_in_line line))

-- with the number of the line
abbrev pub at_line : {A : Type 0} → ℕ → Result A Cause → Result A ScriptFault
at_line n (Ok x) = Ok x
at_line n (Err cause) = Err (record { line = n; cause = cause })

-- the lines from the n-th on
unfoldable pub draft_of_lines : ℕ → ProgramDraft → List (List ℕ) → Result ProgramDraft ScriptFault
draft_of_lines n draft [] = Ok draft
draft_of_lines n draft (line ∷ lines) = at_line n (line_of draft.place line) >>= λ said. draft_of_lines (n + 1) (with_command draft said) lines

abbrev pub program_of : Position → List Command → Result Program ScriptFault
program_of First commands = Err (record { line = 1; cause = NoDomain })
program_of (Second s) commands = Ok (record { settings = s; commands = commands })
program_of (Later s) commands = Ok (record { settings = s; commands = commands })

abbrev pub program_of_draft : ProgramDraft → Result Program ScriptFault
program_of_draft draft = program_of draft.place draft.commands

-- what the bytes of a script say, or their first fault
unfoldable pub program_of_bytes : List ℕ → Result Program ScriptFault
program_of_bytes text = if nat_lt 65536 (length text) then Err (record { line = 1; cause = TooLong }) else (draft_of_lines 1 empty_draft (lines_of text) >>= program_of_draft)
