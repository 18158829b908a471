use Rattle.std.proofs.Common.{◌∙◌, ◌≤◌, ◌+◌, ◌∷◌, ◌++◌, List, [], length, length-append, ap, sym, subst, arith, append_assoc}
use Rattle.std.specs.Vec.Iter.{into_iter_items}
use Rattle.std.specs.Global.{Box}
use Rattle.cpu_words.specs.Common.{Named}
use Rattle.passive_list.specs.Common.{OnCpu, OnPlainCpu}
use Rattle.name_registry.specs.Common.{AreNewCpus}
use Rattle.name_registry.proofs.Opened.{box_after, more_cpus}
use Rattle.name_registry.proofs.blank.name_cpus.Goals as goal

pub of-requires : goal.of-requires
of-requires g c =
    let w : Named = record { table = g.D.Domain.table; settings = g.D.Domain.settings } in
    let is = c.loop-cpu.invariant.0 ∙ ap (λ (l : List (Box OnPlainCpu)). c.loop-cpu.yielded ++ l) c.in-Some.ensures.steps.0 in
    let after = box_after w w.settings.cpus c.args.plain.items c.loop-cpu.yielded (into_iter_items c.next.new.self) c.in-Some.cpu c.requires.plain is in
    record {
      words = (ap (λ (x : OnPlainCpu). x.words.table) after.1, ap (λ (x : OnPlainCpu). x.words.settings) after.1);
      part = c.split_off-share.ensures.parts;
    }

pub loop-cpu-preserved : goal.loop-cpu-preserved
loop-cpu-preserved g c =
    let i = c.loop-cpu.invariant in
    let z = g.D.Domain.settings in
    let w : Named = record { table = g.D.Domain.table; settings = z } in
    let seen = c.loop-cpu.yielded in
    let n = length seen in
    let more = length-append seen (c.in-Some.cpu ∷ []) in
    let is = i.0 ∙ ap (λ (l : List (Box OnPlainCpu)). seen ++ l) c.in-Some.ensures.steps.0 in
    let after = box_after w z.cpus c.args.plain.items seen (into_iter_items c.next.new.self) c.in-Some.cpu c.requires.plain is in
    let new = c.of.ensures ∙ (λ j. record (after.1 j).cpu { made = c.split_off-share.ensures.amount j }) in
    let are = subst (λ (l : List OnCpu). AreNewCpus z (n + 1) l) (sym c.push_reserved.ensures.items) (more_cpus z n c.loop-cpu.cpus.items c.of.result i.1 new) in (
      is ∙ sym (append_assoc seen (c.in-Some.cpu ∷ []) (into_iter_items c.next.new.self)),
      subst (λ k. AreNewCpus z k c.push_reserved.new.self.items) (sym more) are,
      c.push_reserved.ensures.len ∙ ap (λ k. k + 1) i.2 ∙ sym more,
      subst (λ k. z.cpus ≤ k) (sym c.push_reserved.ensures.capacity) i.3,
      omega (arith, c.split_off-share.ensures.parts_left, i.4, more),
      omega (arith, c.split_off-share.ensures.amount_left, i.5),
    )
