-- `name_of_id`: its bytes are a name's, and its clause `value`.
use Rattle.std.proofs.Common.{ap, ◌∙◌, arith}
use Rattle.registry_values.specs.Common.{is_name, name_of}
use Rattle.registry_values.specs.Names.{name_of_id}
use Rattle.registry_values.proofs.Names.{ids_are_names}
use Rattle.registry_values.proofs.id.name_of_id.Goals as goal

pub from_bytes-requires : goal.from_bytes-requires
from_bytes-requires c = ap is_name c.bytes_of_id.ensures ∙ ids_are_names c.args.id (omega (arith, c.ranges.id))

pub returns-clause-value : goal.returns-clause-value
unfolding name_of_id
returns-clause-value c = c.from_bytes.ensures.value ∙ ap name_of c.bytes_of_id.ensures
