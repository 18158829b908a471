use Rattle.std.proofs.Common.{ℕ, ap, ap₂, ◌∙◌}
use Rattle.registry_values.specs.Common.{bytes_of, id_of_bytes}
use Rattle.registry_values.proofs.id.said_by.Goals as goal

pub returns : goal.returns
returns c =
    let read = c.id_of_bytes.ensures ∙ ap id_of_bytes c.bytes_of-bytes.ensures in
    read ∙ ap₂ (λ (h l : ℕ). id_of_bytes (bytes_of h l)) c.words-high.ensures.high c.words-high.ensures.low
