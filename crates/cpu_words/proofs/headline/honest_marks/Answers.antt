use Rattle.cpu_words.proofs.laws.Safety.{drained_is_free, marks_are_honest, found_is_held}
use Rattle.cpu_words.proofs.headline.honest_marks.Goals as goal

pub returns : goal.returns
returns c = record { drained = drained_is_free; marked = marks_are_honest; found = found_is_held }
