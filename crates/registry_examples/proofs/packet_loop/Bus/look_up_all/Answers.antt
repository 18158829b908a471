use Rattle.std.proofs.Common.{◌∙◌, ap, sym, arith}
use Rattle.passive_list.specs.Common.{OnCpu}
use Rattle.registry_examples.proofs.Searched.{found_answers}
use Rattle.registry_examples.proofs.packet_loop.Bus.look_up_all.Goals as goal

pub loop-preserved : goal.loop-preserved
loop-preserved g c =
    let found = c.find-last.ensures.found in (
      λ none. c.loop.invariant.0 (sym (ap (λ (o : OnCpu). o.view.begin) found.is) ∙ none),
      ap (λ (o : OnCpu). o.made) found.is ∙ c.loop.invariant.1,
      omega (arith, c.count.ensures, c.loop.invariant.2, found_answers _ c.loop.cpu c.find-last.new.cpu c.find-last.result found),
    )
