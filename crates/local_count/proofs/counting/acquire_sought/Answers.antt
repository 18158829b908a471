-- After the lookup the entry is the last found one, or it isn't.
use Rattle.std.proofs.Common.{inl, inr, refl}
use Rattle.local_count.proofs.counting.acquire_sought.Goals as goal

pub returns-then-is_found_last-clause-sought : goal.returns-then-is_found_last-clause-sought
returns-then-is_found_last-clause-sought c = record {
  other = c.requires.other;
  c = c.find_inside_on.new.cpu.cpu;
  seen = c.find_inside_on.result;
  finds = c.find_inside_on.ensures.found;
  how = inl (record { last = c.is_found_last.ensures.yes c.if-is_found_last.true; answer = c.acquire_local_on.ensures.acquired });
}

pub returns-clause-sought : goal.returns-clause-sought
returns-clause-sought c = record {
  other = c.requires.other;
  c = c.find_inside_on.new.cpu.cpu;
  seen = c.find_inside_on.result;
  finds = c.find_inside_on.ensures.found;
  how = inr (record { other = c.is_found_last.ensures.no c.if-is_found_last.false; answer = refl; same = refl });
}
