-- `of` keeps the place.
use Rattle.std.proofs.Common.{refl}
use Rattle.c_handles.proofs.Answered.{answered}
use Rattle.c_handles.specs.contracts.rows.CpusPlace.{the_type as from}
use Rattle.c_handles.specs.contracts.answer.CpusAnswer.{the_type as into}
use Rattle.c_handles.specs.contracts.answer.CpusAnswer.of as f
use Rattle.c_handles.proofs.answer.CpusAnswer.of.Statement.{statement}
use Rattle.c_handles.proofs.answer.CpusAnswer.of.Code as code

pub of_spec : {M : Type 1} → statement M
of_spec 𝓤 𝓛 𝓜 𝓡 wired = answered _ from into (λ p. (p.at, tt)) (λ a. a.number) 𝓛 𝓜 𝓡 (λ p n. record { number = n; cpus = p })
    (λ p n. refl) (λ p n. refl) (f.clauses 𝓛 𝓜.mem 𝓡.returns) (λ y. (_, refl, refl))
    f.Key.name (code.unfolded 𝓤 𝓛.H 𝓜 𝓡 wired)
