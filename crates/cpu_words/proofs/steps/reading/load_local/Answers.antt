use Rattle.std.proofs.Common.{ℕ, refl, sym, subst, rules}
use Rattle.cpu_words.specs.Types.{LoadRecord, Local, Word}
use Rattle.cpu_words.specs.Common.{ReferenceView, Reference, Makes}
use Rattle.cpu_words.proofs.by_cpu.CpuSteps.{local_may}
use Rattle.cpu_words.proofs.steps.reading.load_local.Goals as goal

pub load-requires-clause-may : goal.load-requires-clause-may
load-requires-clause-may c = rw c.record_place-place.ensures.place (local_may _ _ _ _ c.requires.slot c.requires.place.1)

pub returns : goal.returns
returns c =
    let told = c.load.ensures.told.1 0 c.args.k refl in
    let view = sym c.load.ensures.told.0 in record {
      step = search rules;
      same = search rules;
      event = subst (λ (w : ReferenceView). (o : ℕ) × Makes (LoadRecord (Local o c.args.k)) (Word c.load.result) (Reference c.args.seat.now.view) (Reference w)) view told.0;
      word = told.1;
      name = told.2;
    }
