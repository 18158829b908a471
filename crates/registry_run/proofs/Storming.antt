-- What a storm wrote, by how the writing ended.
use Rattle.std.proofs.Common.{◌≡◌, ℕ, List, Option, Result, Ok, Err, OnOk, OnErr, IfErr, sym, subst}
use Rattle.std.specs.Io.KnownBytes.{Appends}
use Rattle.registry_language.specs.declared.fault.RunFault.{RunFault}
use Rattle.registry_language.specs.declared.fault.RunFault.TheVariants as run
use Rattle.registry_report.specs.Common.{AppendsPrefix}
use Rattle.registry_storm.specs.{IsSumOf}
use Rattle.registry_storm.specs.declared.sum.StormSum.{StormSum}
use Rattle.registry_run.specs.declared.task.StormSize.{StormSize}
use Rattle.registry_run.specs.{Stormed, storm_text}

module _ {X : Type 0} (made : X → StormSize → Result StormSum RunFault → X → Type 0) where
  -- the five lines of a sum were written, or a front of them
  pub stormed_by_writing : (size : StormSize) (before after : X) (old new : Option (List ℕ)) (sum : StormSum) (text : List ℕ) (r : Result (Unit {0}) RunFault) → made before size (Ok sum) after
      → IsSumOf size.cpus size.turns sum → text ≡ storm_text sum
      → OnOk r (Appends old new text) → OnErr r (AppendsPrefix old new text) → IfErr r (λ fault. fault ≡ run.Write) → Stormed made size before after old new r
  stormed_by_writing size before after old new sum text (Ok u) once is said ok err fault = (sum, once, is, subst (λ z. Appends old new z) said ok)
  stormed_by_writing size before after old new sum text (Err f) once is said ok err fault =
      subst (λ z. Stormed made size before after old new (Err z)) (sym fault) (sum, once, is, subst (λ z. AppendsPrefix old new z) said err)
