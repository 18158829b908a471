-- The reference is given up.
use Rattle.std.proofs.Common.{inl, refl, sym, subst, ◌∙◌}
use Rattle.local_count.specs.Draining.{HasGivenUp}
use Rattle.c_handles.specs.Bodies.{OnLocalBody}
use Rattle.c_calls.specs.LocalCalls.{LocalGivesUp}
use Rattle.c_calls.proofs.Counted.{through}
use Rattle.c_calls.proofs.locals.give_up_local.Goals as goal

pub returns-in-Reference : goal.returns-in-Reference
returns-in-Reference c =
    let taken = c.in-Reference.ensures.taken in
    let a = c.in-Some.k.now in
    let b = c.spend.new.keeper in
    through _ _ _ _ _ (λ x v y l. LocalGivesUp x v y 0 l) a b taken.0 c.in-Some.ensures.value (sym c.may_give_up.ensures.same ∙ taken.1) refl (record {
      words = c.spend.ensures.words;
      how = inl (refl, subst (λ (x : OnLocalBody). HasGivenUp a.keeper x.reference b.keeper) taken.2 c.spend.ensures.done, c.take.ensures.empty);
    })
