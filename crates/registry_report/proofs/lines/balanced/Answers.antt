-- `balanced`: its clause `line`.
use Rattle.std.proofs.Common.{List, ℤ, ℕ, [], ◌∷◌, ◌++◌, ◌∙◌, ap, map, sym}
use Rattle.std.specs.Prelude.{codes}
use Rattle.std.specs.Fmt.{decimal, signed_decimal}
use Rattle.registry_values.specs.Common.{tally_shown}
use Rattle.registry_report.specs.Common.{spaced_words}
use Rattle.registry_report.proofs.Written.{balance_is}
use Rattle.registry_report.proofs.lines.balanced.Goals as goal

pub returns-clause-line : goal.returns-clause-line
returns-clause-line c =
    let t = tally_shown c.args.balance.now in
    let locals = c.in_ok-locals.ensures.words ∙ ap (λ (l : List ℤ). spaced_words (map signed_decimal l)) c.deref.ensures.value in
    c.in_ok-format.ensures.ok
    ∙ (ap (λ (z : List ℕ). codes "slot " ++ (decimal t.slot ++ (codes " number "
    ++ (decimal t.number ++ (codes " held " ++ (signed_decimal t.held ++ (codes " locals" ++ (z ++ (codes " total " ++ (signed_decimal t.total ++ (10 ∷ [])))))))))))
    locals
    ∙ sym (balance_is t))
