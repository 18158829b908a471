-- `of` keeps both.
use Rattle.std.proofs.Common.{refl}
use Rattle.c_handles.proofs.Answered.{joined}
use Rattle.c_handles.specs.contracts.answer.KeeperAnswer.{the_type as from}
use Rattle.c_handles.specs.contracts.rows.CpusPlace.{the_type as other}
use Rattle.c_handles.specs.contracts.answer.ClosedAnswer.{the_type as into}
use Rattle.c_handles.specs.contracts.answer.ClosedAnswer.of as f
use Rattle.c_handles.proofs.answer.ClosedAnswer.of.Statement.{statement}
use Rattle.c_handles.proofs.answer.ClosedAnswer.of.Code as code

pub of_spec : {M : Type 1} → statement M
of_spec 𝓤 𝓛 𝓜 𝓡 wired = joined from other into (λ a. a.number) (λ g. (g.at, tt)) (λ a. a.number) 𝓛 𝓜 𝓡 (λ a g. record { number = a.number; keeper = a.place; cpus = g })
    (λ a g. refl) (λ a g. refl) (f.clauses 𝓛 𝓜.mem 𝓡.returns) (λ y. (_, refl, refl)) f.Key.name (code.unfolded 𝓤 𝓛.H 𝓜 𝓡 wired)
