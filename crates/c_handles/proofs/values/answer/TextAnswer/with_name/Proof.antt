-- `with_name` keeps both.
use Rattle.std.proofs.Common.{refl}
use Rattle.c_handles.proofs.Answered.{joined}
use Rattle.c_handles.specs.contracts.values.answer.TextAnswer.{the_type as from}
use Rattle.c_handles.specs.contracts.values.given.GivenName.{the_type as other}
use Rattle.c_handles.specs.contracts.values.answer.FormatAnswer.{the_type as into}
use Rattle.c_handles.specs.contracts.values.answer.TextAnswer.with_name as f
use Rattle.c_handles.proofs.values.answer.TextAnswer.with_name.Statement.{statement}
use Rattle.c_handles.proofs.values.answer.TextAnswer.with_name.Code as code

pub with_name_spec : {M : Type 1} → statement M
with_name_spec 𝓤 𝓛 𝓜 𝓡 wired = joined from other into (λ a. a.number) (λ g. (g.at, tt)) (λ a. a.number) 𝓛 𝓜 𝓡 (λ a g. record { number = a.number; place = a.place; name = g })
    (λ a g. refl) (λ a g. refl) (f.clauses 𝓛 𝓜.mem 𝓡.returns) (λ y. (_, refl, refl)) f.Key.name (code.unfolded 𝓤 𝓛.H 𝓜 𝓡 wired)
