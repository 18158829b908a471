-- `answer` keeps the name.
use Rattle.std.proofs.Common.{refl}
use Rattle.c_handles.proofs.Answered.{answered}
use Rattle.c_handles.specs.contracts.values.given.GivenName.{the_type as from}
use Rattle.c_handles.specs.contracts.values.answer.GivenNameAnswer.{the_type as into}
use Rattle.c_handles.specs.contracts.values.given.GivenName.answer as f
use Rattle.c_handles.proofs.values.given.GivenName.answer.Statement.{statement}
use Rattle.c_handles.proofs.values.given.GivenName.answer.Code as code

pub answer_spec : {M : Type 1} → statement M
answer_spec 𝓤 𝓛 𝓜 𝓡 wired = answered _ from into (λ p. (p.at, tt)) (λ a. a.number) 𝓛 𝓜 𝓡 (λ p n. record { number = n; name = p })
    (λ p n. refl) (λ p n. refl) (f.clauses 𝓛 𝓜.mem 𝓡.returns) (λ y. (_, refl, refl))
    f.Key.name (code.unfolded 𝓤 𝓛.H 𝓜 𝓡 wired)
