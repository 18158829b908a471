-- `Registry::close`: the last words are those of a run that has all that the CPU did and knew.
use Rattle.std.proofs.Common.{◌≡◌, ◌∙◌, ◌++◌, List, None, ap, subst}
use Rattle.name_registry.specs.Types.{CpuView, LogItem, Settings}
use Rattle.cpu_words.specs.Common.{HasClosed}
use Rattle.passive_list.specs.Common.{OnCpu, OnPlainCpu, HasHeardOn, cpu_after_tell, has_heard}
use Rattle.name_registry.specs.Common.{ClosesRun}
use Rattle.name_registry.proofs.Destroyed.{closes_run}
use Rattle.passive_list.proofs.Sharing.{shared}
use Rattle.name_registry.proofs.registry.Registry.close.Goals as goal

pub returns-clause-run : goal.returns-clause-run
returns-clause-run g c =
    let z = g.D.Domain.settings in
    let a = c.args.self.words.settings in
    let last = c.close.result.words in
    let x : OnCpu = c.deref_mut.result.now.cpu in
    let y : OnCpu = c.show_cpu.new.cpu.cpu in
    let told : c.deref_mut-2.result.now.cpu ≡ cpu_after_tell x = ap (λ (p : OnPlainCpu). p.cpu) c.deref_mut-2.ensures.value ∙ c.hear_cpu.ensures.cpu in
    let same : c.into_inner.result.cpu ≡ y = ap (λ (p : OnPlainCpu). p.cpu) c.into_inner.ensures in
    let seat = c.into_seat.ensures.seat in
    let view : c.into_seat.result.view ≡ y.view = seat.0 ∙ ap (λ (o : OnCpu). o.view) same in
    let log : c.into_seat.result.log ≡ y.log = seat.1 ∙ ap (λ (o : OnCpu). o.log) same in
    let known : c.into_seat.result.known_log ≡ y.known_log = seat.2 ∙ ap (λ (o : OnCpu). o.known_log) same in
    let closed : HasClosed a y.view y.log y.known_log last =
    subst (λ (p : CpuView × List LogItem × List LogItem). HasClosed a p.0 p.1 p.2 last) (λ k. (view k, log k, known k)) c.close.ensures.ended in
    let history = c.hear_cpu.new.keeper.keeper.view.history in
    let run = closes_run z x y history last (subst (λ (m : OnCpu). HasHeardOn history m y) told c.show_cpu.ensures.cpu) (subst (λ (m : OnCpu). y.log ≡ m.log ++ has_heard m None) told c.show_cpu.ensures.log)
    (subst (λ (s : Settings). HasClosed s y.view y.log y.known_log last) c.args.self.settings closed) in
    let sharing = shared c.cpu.inside.share.amount _ _ _ c.deref_mut.ensures.value c.cpu.view_is in
    subst (λ (o : OnCpu). ClosesRun z o last) sharing
    record { keeper = run.keeper; log = run.log; run = run.run; own = run.own; view = run.view; grown = run.grown; shown = run.shown; known = run.known; seen = run.seen; gone = run.gone }
