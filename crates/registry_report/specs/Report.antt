-- The report of a script over the registry that its commands go through, and the laws of this definition.
use Rattle.std.specs.Prelude.{ℕ, List, [], ◌∷◌, ◌++◌, true, Result, Ok, Err, ◌≡◌, ◌<◌, ◌≤◌, length, Option, Some, None, ◌↔◌, Bool, false}
use Rattle.registry_report.specs.Types.{Command, Domain, Limits, Plug, Enter, Exit, Find, Reference, Copy, Held, Read, Release, Count, Peek, Uncount, Advance, Destroy, Perform, Audit, Entry, Change, Settings, Key}
use Rattle.registry_values.specs.Common.{least_below}
use Rattle.protocol.specs.Common.{IsAttached, IsLegal, IsLiveAt, MayHold, Model, IsModelRun, TakesNone, EndsAt, IsLookup, empty_model}
use Rattle.registry_language.specs.declared.command.Command.TheVariants.{Attach, Detach}
use Rattle.registry_language.specs.Program.{Program, IsProgram}
use Rattle.registry_report.specs.declared.hitch.Hitch.{Hitch}
use Rattle.registry_report.specs.Lines.{domain_line, limits_line, attached_line, retired_line, section_line, found_line, reference_line, held_line, read_line, released_line, counted_line, peek_line, uncounted_line, stage_line, destroyed_line, performed_line, audit_text, hitch_line}
use Rattle.registry_report.specs.Registry.{Registry, opening_registry, end_of, lookup}
use Rattle.registry_report.specs.Turns.{command_answer, on_ok}
use Rattle.registry_report.specs.Turns

-- the line of an answer, or of why there is none
abbrev pub answer_line : {X : Type 0} → (X → List ℕ) → Result X Hitch → List ℕ
answer_line line (Ok x) = line x
answer_line line (Err h) = hitch_line h

-- what a command prints
abbrev pub text_of : Registry → Command → List ℕ
text_of r (Domain cpus slots) = domain_line cpus slots
text_of r (Limits changes sections passive count) = limits_line changes sections passive count
text_of r (Attach c rec) = answer_line attached_line (command_answer (Turns.attach_answer r c rec))
text_of r (Plug c rec x) = answer_line attached_line (Turns.plug_answer r c rec x.place)
text_of r (Detach c kind name) = answer_line retired_line (command_answer (Turns.detach_answer r c (record { kind = kind; name = name })))
text_of r (Enter c) = answer_line (λ done. section_line true) (command_answer (Turns.enter_answer r c))
text_of r (Exit c) = answer_line section_line (Turns.exit_answer r c)
text_of r (Find c kind name) = answer_line found_line (Turns.find_answer r c (record { kind = kind; name = name }))
text_of r (Reference c a) = answer_line (reference_line a.place) (Turns.reference_answer r c a.place)
text_of r (Copy c a b) = answer_line (reference_line b.place) (Turns.copy_answer r c a.place b.place)
text_of r (Held c a) = answer_line held_line (Turns.held_answer r c a.place)
text_of r (Read c a) = answer_line (λ x. read_line x.number x.value) (Turns.read_answer r c a.place)
text_of r (Release c a) = answer_line (released_line a.place) (Turns.release_answer r c a.place)
text_of r (Count c x) = answer_line (counted_line x.place) (Turns.count_answer r c x.place)
text_of r (Peek x) = answer_line (λ y. peek_line y.number y.value) (Turns.peek_answer r x.place)
text_of r (Uncount c x) = answer_line (uncounted_line x.place) (Turns.uncount_answer r x.place)
text_of r (Advance n) = answer_line stage_line (command_answer (Turns.advance_answer r n))
text_of r (Destroy c n turns) = answer_line destroyed_line (command_answer (Turns.destroy_answer r c n))
text_of r (Perform c turns) = answer_line (λ done. performed_line) (command_answer (Turns.perform_answer r c))
text_of r Audit = audit_text (Turns.audit_answer r)

-- what it leaves
abbrev pub after : Registry → Command → Registry
after r (Domain cpus slots) = r
after r (Limits changes sections passive count) = r
after r (Attach c rec) = on_ok r (Turns.attach_answer r c rec) (Turns.with_attached r c)
after r (Plug c rec x) = Turns.after_plug r c x.place (Turns.plug_answer r c rec x.place)
after r (Detach c kind name) = on_ok r (Turns.detach_answer r c (record { kind = kind; name = name })) (Turns.with_detached r c)
after r (Enter c) = on_ok r (Turns.enter_answer r c) (λ done. Turns.with_section_entered r c)
after r (Exit c) = on_ok r (Turns.exit_answer r c) (Turns.with_section_exited r c)
after r (Find c kind name) = on_ok r (Turns.find_answer r c (record { kind = kind; name = name })) (Turns.with_found r c)
after r (Reference c a) = on_ok r (Turns.reference_answer r c a.place) (Turns.with_reference r c a.place)
after r (Copy c a b) = on_ok r (Turns.copy_answer r c a.place b.place) (Turns.with_reference r c b.place)
after r (Held c a) = r
after r (Read c a) = r
after r (Release c a) = on_ok r (Turns.release_answer r c a.place) (Turns.without_reference r c a.place)
after r (Count c x) = on_ok r (Turns.count_answer r c x.place) (Turns.with_one_counted r c x.place)
after r (Peek x) = r
after r (Uncount c x) = on_ok r (Turns.uncount_answer r x.place) (Turns.with_one_uncounted r c x.place)
after r (Advance n) = Turns.after_advance r n
after r (Destroy c n turns) = Turns.after_destroy r c n
after r (Perform c turns) = r
after r Audit = r

-- the lines of the commands from here on
unfoldable pub report_from : Registry → List Command → List ℕ
report_from r [] = []
report_from r (command ∷ commands) = text_of r command ++ report_from (after r command) commands

-- the report of a script
abbrev pub report : Program → List ℕ
report program = report_from (opening_registry program.settings) program.commands

-- What lets each turn of a registry be a run of lawful steps of its model: by the history, who holds what, and the labels.

-- the entry with the number n was attached, and is in its slot
pub record HasSlot (h : List Change) (occupants : ℕ → Option ℕ) (n : ℕ) : Type 0 where
  pub entry : Entry
  pub attached : IsAttached h entry
  pub numbered : entry.number ≡ n
  pub occupant : occupants entry.slot ≡ Some n

-- how many of the first k labels name n
abbrev pub labels_for : (ℕ → Option ℕ) → ℕ → ℕ → ℕ
labels_for labels n k = Turns.count_below (λ x. Turns.is_this n (labels x)) k

-- of the settings, the model and the local labels alone: what else a turn changes leaves it as it is
pub record IsSoundModel (z : Settings) (m : Model) (labels : ℕ → Option ℕ) : Type 0 where
  pub legal : IsLegal m.history
  -- an entry that is live, or that an open section may hold, is in its slot
  pub live : (e : Entry) → IsLiveAt m.history (length m.history) e → m.occupants e.slot ≡ Some e.number
  pub held : (c b : ℕ) (e : Entry) → m.sections c ≡ Some b → MayHold m.history b e → m.occupants e.slot ≡ Some e.number
  pub begun : (c b : ℕ) → m.sections c ≡ Some b → (c < z.cpus) × (b ≤ length m.history)
  pub seen : (c : ℕ) → m.passes c ≤ length m.history
  -- no lookup is under way between two turns, and the last found entry is one that the open section may hold
  pub unsearching : (c : ℕ) → m.lookups c ≡ None
  pub last_found : (c : ℕ) (e : Entry) → m.found c ≡ Some e → (b : ℕ) × (m.sections c ≡ Some b) × MayHold m.history b e
  -- only CPUs refer, and only slots keep
  pub referring : (c n : ℕ) → 0 < m.passive c n → c < z.cpus
  pub keeping : (t d : ℕ) → m.keeps t ≡ Some d → t < z.slots
  -- what a label names has its slot, and is counted for each of its labels
  pub labelled : (x n : ℕ) → labels x ≡ Some n → HasSlot m.history m.occupants n
  pub counted : (n k : ℕ) → labels_for labels n k ≤ m.locals n

abbrev pub IsSound : Registry → Type 0
IsSound r = IsSoundModel r.settings r.model r.local_labels

-- a turn from r to q keeps that and the settings, and is a run of lawful steps
abbrev pub IsLawfulTurn : Registry → Registry → Type 0
IsLawfulTurn r q = IsSound q × IsModelRun TakesNone r.model q.model × (q.settings ≡ r.settings)

-- the registry after commands, one after the other
abbrev pub after_each : {C : Type 0} → (Registry → C → Registry) → Registry → List C → Registry
after_each after r [] = r
after_each after r (x ∷ xs) = after_each after (after r x) xs

-- The laws of the report's definition, in the words of histories and model runs.

-- Over the commands of every script the registry's model is reached by a run of lawful steps, from the one in which nothing has happened. It takes no reference without a section.
abbrev pub ReportIsModelRun : Type 0
ReportIsModelRun = (p : Program) → IsProgram p → IsModelRun TakesNone empty_model (after_each after (opening_registry p.settings) p.commands).model

-- What is computed change by change is the lookup of the history at each point.
abbrev pub LookupIsExact : Type 0
LookupIsExact = (h : List Change) → IsLegal h → (key : Key) (k : ℕ) → IsLookup h k key (lookup h key k)

-- The end that is computed is where the entry is detached or replaced.
abbrev pub EndIsExact : Type 0
EndIsExact = (h : List Change) → IsLegal h → (n p : ℕ) → (end_of h n ≡ Some p) ↔ EndsAt h n p

-- The least number below a bound passes, and none below it does: the first-fit slot and the first obstacle are least.
abbrev pub LeastIsLeast : Type 0
LeastIsLeast = (p : ℕ → Bool) (n c : ℕ) → (least_below p n ≡ Some c) ↔ ((c < n) × (p c ≡ true) × ((d : ℕ) → d < c → p d ≡ false))
