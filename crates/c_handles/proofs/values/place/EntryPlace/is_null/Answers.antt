-- What is lent is given back as it was.
use Rattle.std.proofs.Common.{ap, sym}
use Rattle.std.specs.Prelude.{is_none}
use Rattle.c_handles.proofs.values.place.EntryPlace.is_null.Goals as goal

pub returns-in-Some : goal.returns-in-Some
returns-in-Some c = (λ i. record { at = c.args.self.now.at; value = sym c.in-Some.ensures.value i }, ap is_none (sym c.in-Some.ensures.value))
