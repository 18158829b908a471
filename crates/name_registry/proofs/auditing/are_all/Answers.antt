-- Whether all CPUs are here.
use Rattle.std.proofs.Common.{◌<◌, below_more, length, map, refl, sym, ap, ◌∙◌, subst, arith}
use Rattle.std.specs.Prelude.{IsSome}
use Rattle.std.proofs.lemmas.Bool.{false≢true}
use Rattle.std.proofs.lemmas.List.{length-map}
use Rattle.passive_list.specs.Common.{OnCpu}
use Rattle.name_registry.specs.Common.{AreAllThere}
use Rattle.name_registry.proofs.Audits.{cpu_at}
use Rattle.name_registry.proofs.Lent.{IsHere, cpu_there, is_cpu_there, set_back, table_there}
use Rattle.name_registry.proofs.auditing.are_all.Goals as goal

pub returns-then-cpus-count : goal.returns-then-cpus-count
returns-then-cpus-count g c =
    record { same = refl; yes = λ never. absurd (false≢true never); no = λ _ all. c.if-cpus-count.true (sym (length-map c.args.cpus.now g.C.ReachesCpu.cpu) ∙ all.all.count) }

pub returns-then-not-is_cpu : goal.returns-then-not-is_cpu
returns-then-not-is_cpu g c =
    let cpu = g.C.ReachesCpu.cpu in
    let table = g.C.ReachesCpu.table in
    let i = c.loop-c.invariant in
    let ls = c.loop-c.cpus in
    let k = c.loop-c.c in
    let l = c.index-cpus-c.result in
    let lt : k < length ls = omega (arith, c.loop-c-test.true, c.if-cpus-count.false, ap length i.0) in
    record {
      same = set_back ls k l lt c.is_cpu.new.lent c.is_cpu.ensures.same ∙ i.0;
      yes = λ never. absurd (false≢true never);
      no = λ _ all.
          let here = subst (λ us. AreAllThere c.args.count (map table us) (map cpu us)) (sym i.0) all in
          c.is_cpu.ensures.no c.if-not-is_cpu.true (subst IsSome (table_there ls k l lt table) (here.there k (omega (arith, lt, length-map ls table))))
          (here.all.each k _ (cpu_there ls k l lt cpu));
    }

pub loop-c-preserved : goal.loop-c-preserved
loop-c-preserved g c =
    let cpu = g.C.ReachesCpu.cpu in
    let table = g.C.ReachesCpu.table in
    let i = c.loop-c.invariant in
    let ls = c.loop-c.cpus in
    let k = c.loop-c.c in
    let l = c.index-cpus-c.result in
    let lt : k < length ls = omega (arith, c.loop-c-test.true, c.if-cpus-count.false, ap length i.0) in
    let had = c.is_cpu.ensures.yes c.if-not-is_cpu.false in
    let here : IsHere (map table ls) (map cpu ls) k = (
      subst IsSome (sym (table_there ls k l lt table)) had.0,
      λ x at. ap (λ (y : OnCpu). y.view.id) (sym (is_cpu_there ls k l lt cpu x at)) ∙ had.1,
    ) in (
      set_back ls k l lt c.is_cpu.new.lent c.is_cpu.ensures.same ∙ i.0,
      below_more (IsHere (map table c.args.cpus.now) (map cpu c.args.cpus.now)) k i.1 (subst (λ us. IsHere (map table us) (map cpu us) k) i.0 here),
    )

pub returns : goal.returns
returns g c =
    let i = c.loop-c.invariant in
    let first = c.args.cpus.now in
    record {
      same = i.0;
      yes = λ _. record {
        all = record {
          count = length-map first g.C.ReachesCpu.cpu ∙ c.if-cpus-count.false;
          each = λ k x at. (i.1 k (let low = (cpu_at (map g.C.ReachesCpu.cpu first) k x x at).0 in
              omega (arith, low, length-map first g.C.ReachesCpu.cpu, c.if-cpus-count.false, c.loop-c-test.false))).1 x at;
        };
        there = λ k low. (i.1 k (omega (arith, low, length-map first g.C.ReachesCpu.table, c.if-cpus-count.false, c.loop-c-test.false))).0;
      };
      no = λ never. absurd (false≢true (sym never));
    }
