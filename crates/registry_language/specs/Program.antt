-- What a script says, the lines of it so far, and what a parser returned.
use Rattle.std.specs.Prelude.{◌≡◌, ℕ, nat_lt, Bool, true, false, ◌&&◌, ◌||◌, List, [], ◌∷◌, ◌++◌, Option, Some, None, IsTrue, Result, Ok, Err}
use Rattle.std.specs.List.{list_all}
use Rattle.registry_values.specs.Common.{are_usual, is_within, is_lawful, is_iface}
use Rattle.registry_values.specs.declared.settings.Settings.{Settings}
use Rattle.registry_language.specs.declared.label.Label.{Label}
use Rattle.registry_language.specs.declared.position.Position.{Position}
use Rattle.registry_language.specs.declared.position.Position.TheVariants.{First, Second, Later}
use Rattle.registry_language.specs.declared.command.Command.{Command}
use Rattle.registry_language.specs.declared.command.Command.TheVariants.{Domain, Limits, Attach, Plug, Detach, Enter, Exit, Find, Reference, Copy, Held, Read, Release, Count, Peek, Uncount, Advance, Destroy, Perform, Audit}
use Rattle.registry_language.specs.declared.fault.Cause.{Cause}
use Rattle.registry_language.specs.declared.fault.LineFault.{LineFault}
use Rattle.registry_language.specs.declared.fault.LineFault.TheVariants as line
use Rattle.registry_language.specs.declared.fault.ParseFault.{ParseFault}
use Rattle.registry_language.specs.declared.fault.ParseFault.TheVariants as parse
use Rattle.registry_language.specs.declared.fault.ScriptFault.{ScriptFault}

pub record Program : Type 0 where
  pub settings : Settings
  pub commands : List Command

-- where the next command stands, and the commands before it
pub record ProgramDraft : Type 0 where
  pub place : Position
  pub commands : List Command

abbrev pub empty_draft : ProgramDraft
empty_draft = record { place = First; commands = [] }

-- the limits of a script that gives none
abbrev pub settings_for : ℕ → ℕ → Settings
settings_for cpus slots = record { cpus = cpus; slots = slots; change_limit = 1000; section_limit = 1000; passive_limit = 100; count_limit = 100 }

-- the same registry with other limits
abbrev pub with_limits : Settings → ℕ → ℕ → ℕ → ℕ → Settings
with_limits s changes sections passive count = record s { change_limit = changes; section_limit = sections; passive_limit = passive; count_limit = count }

-- a letter
abbrev pub is_label : Label → Bool
is_label label = nat_lt label.place 26

-- how many turns a call may be given
abbrev pub are_turns : ℕ → Bool
are_turns n = is_within 1 1000 n

-- the CPU is one of so many, and the other words are lawful
abbrev pub suits_cpus : ℕ → Command → Bool
suits_cpus cpus (Domain c slots) = true
suits_cpus cpus (Limits changes sections passive count) = true
suits_cpus cpus (Attach cpu rec) = nat_lt cpu cpus && is_lawful rec.name
suits_cpus cpus (Plug cpu rec label) = nat_lt cpu cpus && is_lawful rec.name && is_iface rec.kind && is_label label
suits_cpus cpus (Detach cpu kind name) = nat_lt cpu cpus
suits_cpus cpus (Enter cpu) = nat_lt cpu cpus
suits_cpus cpus (Exit cpu) = nat_lt cpu cpus
suits_cpus cpus (Find cpu kind name) = nat_lt cpu cpus
suits_cpus cpus (Reference cpu label) = nat_lt cpu cpus && is_label label
suits_cpus cpus (Copy cpu source target) = nat_lt cpu cpus && is_label source && is_label target
suits_cpus cpus (Held cpu label) = nat_lt cpu cpus && is_label label
suits_cpus cpus (Read cpu label) = nat_lt cpu cpus && is_label label
suits_cpus cpus (Release cpu label) = nat_lt cpu cpus && is_label label
suits_cpus cpus (Count cpu label) = nat_lt cpu cpus && is_label label
suits_cpus cpus (Peek label) = is_label label
suits_cpus cpus (Uncount cpu label) = nat_lt cpu cpus && is_label label
suits_cpus cpus (Advance number) = true
suits_cpus cpus (Destroy cpu number turns) = nat_lt cpu cpus && are_turns turns
suits_cpus cpus (Perform cpu turns) = nat_lt cpu cpus && are_turns turns
suits_cpus cpus Audit = true

-- all that carrying the command out needs
abbrev pub suits : Settings → Command → Bool
suits s command = suits_cpus s.cpus command

-- domain, with settings that can be used
abbrev pub begins : Command → Bool
begins (Domain cpus slots) = are_usual (settings_for cpus slots)
begins _ = false

-- limits that can be used
abbrev pub limits_rightly : Settings → Command → Bool
limits_rightly s (Limits changes sections passive count) = are_usual (with_limits s changes sections passive count)
limits_rightly s _ = false

-- a command of the run, neither domain nor limits, that suits the settings
abbrev pub is_of_run : Settings → Command → Bool
is_of_run s (Domain cpus slots) = false
is_of_run s (Limits changes sections passive count) = false
is_of_run s command = suits s command

-- a command that may come there: domain comes first, and limits second or not at all
abbrev pub may_follow : Position → Command → Bool
may_follow First command = begins command
may_follow (Second s) command = limits_rightly s command || is_of_run s command
may_follow (Later s) command = is_of_run s command

-- the settings with the limits that the command gives
abbrev pub settings_after : Settings → Command → Settings
settings_after s (Limits changes sections passive count) = with_limits s changes sections passive count
settings_after s _ = s

-- where the next command stands
abbrev pub position_after : Position → Command → Position
position_after First (Domain cpus slots) = Second (settings_for cpus slots)
position_after First _ = First
position_after (Second s) command = Later (settings_after s command)
position_after (Later s) command = Later s

abbrev pub with_command : ProgramDraft → Option Command → ProgramDraft
with_command p None = p
with_command p (Some command) = record { place = position_after p.place command; commands = p.commands ++ command ∷ [] }

pub record IsProgram (p : Program) : Type 0 where
  pub fit : IsTrue (are_usual p.settings)
  pub suited : IsTrue (list_all (suits p.settings) p.commands)

-- the commands so far are those of a program
abbrev pub AreBefore : Position → List Command → Type 0
AreBefore First commands = commands ≡ []
AreBefore (Second s) commands = IsProgram (record { settings = s; commands = commands })
AreBefore (Later s) commands = IsProgram (record { settings = s; commands = commands })

abbrev pub IsDraft : ProgramDraft → Type 0
IsDraft p = AreBefore p.place p.commands

-- What a parser returned, against what the grammar says.

-- unless memory ran out, the result is what is said
abbrev pub LineGives : {X : Type 0} → Result X LineFault → Result X Cause → Type 0
LineGives (Ok x) read = read ≡ Ok x
LineGives (Err (line.Cause cause)) read = read ≡ Err cause
LineGives (Err line.Memory) read = Unit {0}

abbrev pub ParseGives : {X : Type 0} → Result X ParseFault → Result X ScriptFault → Type 0
ParseGives (Ok x) read = read ≡ Ok x
ParseGives (Err (parse.Script fault)) read = read ≡ Err fault
ParseGives (Err parse.Memory) read = Unit {0}

-- a draft that took a line
abbrev pub LineTakes : ProgramDraft → Result (Unit {0}) LineFault → Result (Option Command) Cause → ProgramDraft → Type 0
LineTakes new (Ok u) read old = (said : Option Command) × (read ≡ Ok said) × (new ≡ with_command old said)
LineTakes new (Err (line.Cause cause)) read old = read ≡ Err cause
LineTakes new (Err line.Memory) read old = Unit {0}
