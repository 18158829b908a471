-- What was read says what all the input says.
use Rattle.std.proofs.Common.{◌≡◌, ℕ, ◌<◌, List, ◌++◌, length, true, nat_lt, Option, None, Some, IfSome, Result, Ok, Err, refl, ap, sym, ◌∙◌, arith, append-nil, length-append, inl, inr}
use Rattle.std.proofs.lemmas.Bool.{cases_lt}
use Rattle.std.proofs.lemmas.Bool.Decides.{nat_tests}
use Rattle.registry_script.specs.declared.engine.Engine.{Engine}
use Rattle.registry_language.specs.declared.fault.RunFault.{RunFault}
use Rattle.registry_language.specs.declared.fault.RunFault.TheVariants as run
use Rattle.registry_language.specs.declared.fault.Cause.TheVariants.{TooLong}
use Rattle.registry_language.specs.Grammar.{program_of_bytes}
use Rattle.registry_script.specs.{Ran, RanOn, WasRead}

too_long : (text : List ℕ) → 65536 < length text → program_of_bytes text ≡ Err (record { line = 1; cause = TooLong })
unfolding program_of_bytes
too_long text h = let t : nat_lt 65536 (length text) ≡ true = grind (arith, nat_tests) in rw t refl

same_script : (input text : List ℕ) (rest : Option (List ℕ)) → WasRead (Some input) rest text → program_of_bytes text ≡ program_of_bytes input
same_script input text None h = absurd h.given
same_script input text (Some more) h = elim (cases_lt 65536 (length text)) [
  | inl long ↦
      let longer : 65536 < length input = omega (arith, ap length h.given, length-append text more) in
      too_long text long ∙ sym (too_long input longer)
  | inr short ↦ ap program_of_bytes (sym (h.given ∙ ap (λ z. text ++ z) (h.whole short) ∙ append-nil text))
]

known : (engine : Engine) (input : List ℕ) (rest old new : Option (List ℕ)) (r : Result (Unit {0}) RunFault) → Ran engine (Some input) rest old new r → RanOn engine input old new r
known engine input rest old new (Ok u) (text, read, program, says, written) = (program, sym (same_script input text rest read) ∙ says, written)
known engine input rest old new (Err (run.Script fault)) (text, read, says, keeps) = (sym (same_script input text rest read) ∙ says, keeps)
known engine input rest old new (Err run.Read) h = h
known engine input rest old new (Err run.Write) (text, read, program, says, written) = (program, sym (same_script input text rest read) ∙ says, written)
known engine input rest old new (Err run.Memory) (inl keeps) = inl keeps
known engine input rest old new (Err run.Memory) (inr (text, read, program, says, written)) = inr (program, sym (same_script input text rest read) ∙ says, written)
known engine input rest old new (Err run.NoThread) h = h

pub ran_known : (engine : Engine) (left rest old new : Option (List ℕ)) (r : Result (Unit {0}) RunFault) → Ran engine left rest old new r → IfSome left (λ input. RanOn engine input old new r)
ran_known engine None rest old new r h = tt
ran_known engine (Some input) rest old new r h = known engine input rest old new r h
