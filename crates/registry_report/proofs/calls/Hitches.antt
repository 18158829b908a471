-- The core refuses each command only as the command may be refused.
use Rattle.std.proofs.Common.{◌≡◌, ℕ, Option, None, Some, Bool, true, false, inl, inr, refl, ap, ◌∙◌}
use Rattle.std.specs.Prelude.{IfErr, Result, Ok, Err, if◌then◌else◌}
use Rattle.registry_report.specs.Types.{Room, Entry, Record, Refusal, Stage, Grace, Command}
use Rattle.passive_core.specs.Common.{destroy_answer, IsAnswer, attach_answer, attach_iface_answer, given_entry, enter_answer, perform_answer}
use Rattle.registry_values.specs.Common.{entry_in, wait_answer, destroy_result, destroy_result_of, stage_in}
use Rattle.protocol.specs.Common.{State}
use Rattle.registry_report.specs.Common.{Hitch, Refused, command_answer, IsHitchOf, IsOfAttach, IsOfDestroy, IsOfEnter, IsOfPerform, MayHitch, MayWantMemory}

-- a refusal by a test
if_refused : {X : Type 0} (P : Refusal → Type 0) (b : Bool) (x y : Result X Refusal) → IfErr x P → IfErr y P → IfErr (if b then x else y) P
if_refused P true x y h k = h
if_refused P false x y h k = k

entry_refused : (o : Option ℕ) (room : Room) (rec : Record) → IfErr (entry_in o room rec) IsOfAttach
entry_refused None room rec = tt
entry_refused (Some t) room rec = search if_refused

given_refused : (s : State) (rec : Record) → IfErr (given_entry s rec) IsOfAttach
given_refused s rec = search (if_refused, entry_refused)

pub attach_refused : (s : State) (c : ℕ) (rec : Record) → IfErr (attach_answer s c rec) IsOfAttach
attach_refused s c rec = search (if_refused, given_refused)

pub attach_iface_refused : (s : State) (c : ℕ) (rec : Record) (id : ℕ) → IfErr (attach_iface_answer s c rec id) IsOfAttach
attach_iface_refused s c rec id = search (if_refused, given_refused)

pub enter_refused : (s : State) (c : ℕ) → IfErr (enter_answer s c) IsOfEnter
enter_refused s c = search if_refused

destroyed_refused : (stage : Stage) → IfErr (destroy_result stage) IsOfDestroy
destroyed_refused (Grace c) = tt
destroyed_refused _ = tt

stage_refused : (stage : ℕ → Stage) (o : Option ℕ) → IfErr (destroy_result_of (stage_in stage o)) IsOfDestroy
stage_refused stage None = tt
stage_refused stage (Some t) = destroyed_refused (stage t)

pub destroy_refused : (s : State) (c n : ℕ) → IfErr (destroy_answer s c n) IsOfDestroy
destroy_refused s c n = search (if_refused, stage_refused)

waiting_refused : (o : Option ℕ) → IfErr (wait_answer o) IsOfPerform
waiting_refused None = tt
waiting_refused (Some c) = tt

pub perform_refused : (s : State) (c : ℕ) → IfErr (perform_answer s c) IsOfPerform
perform_refused s c = search (if_refused, waiting_refused)

-- a call that was refused as its command may be
pub hitch_is : {X : Type 0} (command : Command) (given : Result X Hitch) (result answer : Result X Refusal) → given ≡ command_answer result → result ≡ answer
    → IfErr answer (λ f. IsHitchOf command (Refused f)) → IfErr given (MayHitch command)
hitch_is command given result (Ok x) told is h = rw (told ∙ ap command_answer is) tt
hitch_is command given result (Err f) told is h = rw (told ∙ ap command_answer is) (inr h)

-- the same for a call that may run out of memory
pub attach_hitch : (command : Command) (given : Result Entry Hitch) (result answer : Result Entry Refusal) → MayWantMemory command → given ≡ command_answer result → IsAnswer answer result
    → IfErr answer (λ f. IsHitchOf command (Refused f)) → IfErr given (MayHitch command)
attach_hitch command given result (Ok e) may told (inl is) h = rw (told ∙ ap command_answer is) tt
attach_hitch command given result (Ok e) may told (inr none) h = rw (told ∙ ap command_answer none) (inl (may, refl))
attach_hitch command given result (Err f) may told is h = rw (told ∙ ap command_answer is) (inr h)
