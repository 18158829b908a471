-- `with_bytes` keeps both.
use Rattle.std.proofs.Common.{refl}
use Rattle.c_handles.proofs.Answered.{joined}
use Rattle.c_handles.specs.contracts.values.answer.NameAnswer.{the_type as from}
use Rattle.c_handles.specs.contracts.values.given.GivenBytes.{the_type as other}
use Rattle.c_handles.specs.contracts.values.answer.BytesAnswer.{the_type as into}
use Rattle.c_handles.specs.contracts.values.answer.NameAnswer.with_bytes as f
use Rattle.c_handles.proofs.values.answer.NameAnswer.with_bytes.Statement.{statement}
use Rattle.c_handles.proofs.values.answer.NameAnswer.with_bytes.Code as code

pub with_bytes_spec : {M : Type 1} → statement M
with_bytes_spec 𝓤 𝓛 𝓜 𝓡 wired = joined from other into (λ a. a.number) (λ g. (g.at, tt)) (λ a. a.number) 𝓛 𝓜 𝓡 (λ a g. record { number = a.number; place = a.place; bytes = g })
    (λ a g. refl) (λ a g. refl) (f.clauses 𝓛 𝓜.mem 𝓡.returns) (λ y. (_, refl, refl)) f.Key.name (code.unfolded 𝓤 𝓛.H 𝓜 𝓡 wired)
