use Rattle.std.proofs.Common.{ap, ◌∙◌}
use Rattle.registry_values.specs.Common.{is_padded}
use Rattle.registry_values.specs.Names.{are_name_words}
use Rattle.registry_values.proofs.name.are_name_words.Goals as goal

pub returns : goal.returns
unfolding are_name_words
returns c = c.is_padded.ensures ∙ ap is_padded c.bytes_of-bytes.ensures
