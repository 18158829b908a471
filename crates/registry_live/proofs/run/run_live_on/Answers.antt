-- `run_live_on`: its clause `references`.
use Rattle.std.proofs.Common.{ap, ◌∙◌, rules}
use Rattle.registry_live.specs.{Lent, unlabelled}
use Rattle.registry_live.proofs.Labelled.{given_back}
use Rattle.registry_live.proofs.run.run_live_on.Goals as goal

pub returns-clause-references : goal.returns-clause-references
returns-clause-references g c =
    let same =
    given_back c.args.cpus.now _ _ _
    (ap (λ (l : Lent). l.unlabelled) c.run_on-ended.ensures.kept ∙ (λ i. unlabelled (c.new-session.ensures.cpus i) (c.new-session.ensures.passives i)))
    c.give_back.ensures.released in
    search (rules, same)
