-- After the lookup the entry is the last found one, or the CPU refers to it, or it is neither.
use Rattle.std.proofs.Common.{inl, inr, refl}
use Rattle.passive_ref.proofs.Changing.{refused_cpu}
use Rattle.passive_ref.proofs.acquiring.acquire_sought.Goals as goal

pub returns-then-is_found_last-clause-sought : goal.returns-then-is_found_last-clause-sought
returns-then-is_found_last-clause-sought c =
    let found = c.find_inside_on.new.cpu in
    record {
      other = c.requires.other;
      c = found.cpu;
      seen = c.find_inside_on.result;
      finds = c.find_inside_on.ensures.found;
      how = inl (record {
        last = c.is_found_last.ensures.yes c.if-is_found_last.true;
        answer = c.acquire_on.ensures.answer;
        refused = refused_cpu found c.acquire_on.new.cpu c.acquire_on.result c.acquire_on.ensures.refused;
      });
    }

pub returns-in-Some-clause-sought : goal.returns-in-Some-clause-sought
returns-in-Some-clause-sought c = record {
  other = c.requires.other;
  c = c.find_inside_on.new.cpu.cpu;
  seen = c.find_inside_on.result;
  finds = c.find_inside_on.ensures.found;
  how = inr (inl c.copy_at.ensures.copied);
}

pub returns-in-None-clause-sought : goal.returns-in-None-clause-sought
returns-in-None-clause-sought c = record {
  other = c.requires.other;
  c = c.find_inside_on.new.cpu.cpu;
  seen = c.find_inside_on.result;
  finds = c.find_inside_on.ensures.found;
  how = inr (inr (record {
    other = c.is_found_last.ensures.no c.if-is_found_last.false;
    none = c.slot_of.ensures.none c.in-None.is;
    answer = refl;
    same = refl;
  }));
}
