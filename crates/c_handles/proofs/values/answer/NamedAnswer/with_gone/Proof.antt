-- `with_gone` keeps both.
use Rattle.std.proofs.Common.{refl}
use Rattle.c_handles.proofs.Answered.{joined}
use Rattle.c_handles.specs.contracts.values.answer.NamedAnswer.{the_type as from}
use Rattle.c_handles.specs.contracts.values.place.EntryPlace.{the_type as other}
use Rattle.c_handles.specs.contracts.values.answer.ReplaceAnswer.{the_type as into}
use Rattle.c_handles.specs.contracts.values.answer.NamedAnswer.with_gone as f
use Rattle.c_handles.proofs.values.answer.NamedAnswer.with_gone.Statement.{statement}
use Rattle.c_handles.proofs.values.answer.NamedAnswer.with_gone.Code as code

pub with_gone_spec : {M : Type 1} → statement M
with_gone_spec 𝓤 𝓛 𝓜 𝓡 wired = joined from other into (λ a. a.number) (λ g. (g.at, tt)) (λ a. a.number) 𝓛 𝓜 𝓡 (λ a g. record { number = a.number; place = a.place; name = a.name; gone = g })
    (λ a g. refl) (λ a g. refl) (f.clauses 𝓛 𝓜.mem 𝓡.returns) (λ y. (_, refl, refl)) f.Key.name (code.unfolded 𝓤 𝓛.H 𝓜 𝓡 wired)
