-- What a turn of C's returns: a destroy's, and a wait's.
use Rattle.std.proofs.Common.{◌≡◌, true, false, ℕ, List, Option, Some, None, is_some, Result, Ok, Err, refl, sym, ◌∙◌, subst}
use Rattle.c_calls.specs.Types.{Settings, LogItem, Refusal, Stage, Grace, Passive, Local, Freed, NoMemory, BadSettings, NameTaken, NoSlot, HistoryFull, NotFound, Inside, SectionsSpent, NothingFound, PassiveFull, WrongCpu, NotHeld, LocalFull, NotRetired, MissingCpu, StillHeld, Waiting, TooDeep, NeedsDriver}
use Rattle.registry_values.specs.Common.{number_of_refusal}
use Rattle.cpu_words.specs.Common.{IsFreedFrom}
use Rattle.passive_list.specs.Common.{OnKeeper, OnCpu, OnPlainKeeper}
use Rattle.name_registry.specs.Common.{Finishes, HasPassedAll, IsGoneIfFreed}
use Rattle.name_registry.proofs.Destroyed.{stays_gone}
use Rattle.c_handles.specs.values.Texts.{stage_out}
use Rattle.c_handles.specs.declared.values.plain.TheConstants.{DONE}
use Rattle.c_handles.specs.declared.values.plain.CStage.{CStage}
use Rattle.c_handles.specs.values.Places.{put}
use Rattle.c_calls.specs.Turns.{Advances, DestroyAnswers, PassesHeld, WritesDestroyed}

-- A destroy

-- no refusal has the number of done
pub refused_not : (f : Refusal) → DONE ≡ number_of_refusal f → ⊥
refused_not NoMemory is = cc
refused_not BadSettings is = cc
refused_not NameTaken is = cc
refused_not NoSlot is = cc
refused_not HistoryFull is = cc
refused_not NotFound is = cc
refused_not Inside is = cc
refused_not SectionsSpent is = cc
refused_not NothingFound is = cc
refused_not PassiveFull is = cc
refused_not WrongCpu is = cc
refused_not NotHeld is = cc
refused_not LocalFull is = cc
refused_not NotRetired is = cc
refused_not MissingCpu is = cc
refused_not (StillHeld stage) is = cc
refused_not (Waiting cpu) is = cc
refused_not TooDeep is = cc
refused_not NeedsDriver is = cc

-- what done says, by what was written
gone_by : (number : ℕ) (r : Result Stage Refusal) (n : ℕ) (old new : Option CStage) (log : List LogItem) → IsGoneIfFreed number r log → WritesDestroyed r n old new → n ≡ DONE
    → (slot : ℕ) × (new ≡ put old (stage_out (Freed slot))) × IsFreedFrom slot number log
gone_by number (Ok (Grace c)) n old new log gone is done = absurd (refused_not (StillHeld (Grace c)) (sym done ∙ is.0))
gone_by number (Ok (Passive c)) n old new log gone is done = absurd (refused_not (StillHeld (Passive c)) (sym done ∙ is.0))
gone_by number (Ok (Local k)) n old new log gone is done = absurd (refused_not (StillHeld (Local k)) (sym done ∙ is.0))
gone_by number (Ok (Freed t)) n old new log gone is done = (t, is.1, gone)
gone_by number (Err f) n old new log gone is done = absurd (refused_not f (sym done ∙ is.0))

pub destroyed_by : (number : ℕ) (k l : OnPlainKeeper) (r : Result Stage Refusal) (n : ℕ) (old new : Option CStage) → Advances number k l r → WritesDestroyed r n old new → DestroyAnswers number k l n old new
destroyed_by number k l r n old new made writes = record {
  r = r;
  advances = made;
  writes = writes;
  done = λ done. let is = gone_by number r n old new l.keeper.log made.gone writes done in (is.0, is.1, is.2, stays_gone k.words.settings is.0 number l.keeper.log is.2);
}

-- A wait

-- what follows a turn's glances: where they told of no CPU what was retired is passed, and else nothing more is done
pub finishes_passed : (z y : Settings) (numbers made : List ℕ) (p q : OnKeeper × OnCpu) (told : Option ℕ) → y ≡ z → made ≡ numbers → is_some told ≡ false → HasPassedAll y p.0 p.1 made q.0 q.1
    → Finishes (PassesHeld z) numbers p told q
finishes_passed z y numbers made p q None same is none passed =
    subst (λ (x : Settings). HasPassedAll x p.0 p.1 numbers q.0 q.1) same (subst (λ (n : List ℕ). HasPassedAll y p.0 p.1 n q.0 q.1) is passed)
finishes_passed z y numbers made p q (Some c) same is none passed = absurd (let no : true ≡ false = none in cc)

pub finishes_waiting : (z : Settings) (numbers : List ℕ) (p : OnKeeper × OnCpu) (told : Option ℕ) → is_some told ≡ true → Finishes (PassesHeld z) numbers p told p
finishes_waiting z numbers p None some = absurd (let no : false ≡ true = some in cc)
finishes_waiting z numbers p (Some c) some = refl
