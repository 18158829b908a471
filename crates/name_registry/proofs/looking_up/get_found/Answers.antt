-- The memory got nothing: what follows is a get in a section.
use Rattle.std.proofs.Common.{None}
use Rattle.name_registry.proofs.looking_up.get_found.Goals as goal

pub returns-clause-gets : goal.returns-clause-gets
returns-clause-gets c = record { tried = c.get_by_memory.new.cpu.cpu; got = None; gets = c.in_default.ensures.got; after = c.get_in_section.ensures.gets }
