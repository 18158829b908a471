-- `answer` keeps the entry.
use Rattle.std.proofs.Common.{refl}
use Rattle.c_handles.proofs.Answered.{answered}
use Rattle.c_handles.specs.contracts.values.given.GivenEntry.{the_type as from}
use Rattle.c_handles.specs.contracts.values.answer.GivenEntryAnswer.{the_type as into}
use Rattle.c_handles.specs.contracts.values.given.GivenEntry.answer as f
use Rattle.c_handles.proofs.values.given.GivenEntry.answer.Statement.{statement}
use Rattle.c_handles.proofs.values.given.GivenEntry.answer.Code as code

pub answer_spec : {M : Type 1} → statement M
answer_spec 𝓤 𝓛 𝓜 𝓡 wired = answered _ from into (λ p. (p.at, tt)) (λ a. a.number) 𝓛 𝓜 𝓡 (λ p n. record { number = n; entry = p })
    (λ p n. refl) (λ p n. refl) (f.clauses 𝓛 𝓜.mem 𝓡.returns) (λ y. (_, refl, refl))
    f.Key.name (code.unfolded 𝓤 𝓛.H 𝓜 𝓡 wired)
