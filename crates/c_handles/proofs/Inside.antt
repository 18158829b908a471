-- A test for being inside a section is exact.
use Rattle.std.proofs.Common.{◌≡◌, ◌≢◌, ℕ, Bool, true, false, Option, Some, None, IsTrue, refl}
use Rattle.std.specs.Prelude.{◌↔◌, is_some}
use Rattle.std.proofs.lemmas.Bool.{false≢true}

none_of : (x : ℕ) → ◌≡◌ {A = Option ℕ} (Some x) None → ⊥
none_of x q = cc

pub inside_is : (b : Bool) (o : Option ℕ) → IsTrue b ↔ o ≢ None → b ≡ is_some o
inside_is true None test = absurd (test.0 refl refl)
inside_is false None test = refl
inside_is true (Some x) test = refl
inside_is false (Some x) test = absurd (false≢true (test.1 (λ q. none_of x q)))
