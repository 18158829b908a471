use Rattle.passive_list.specs.Common.{no_memory}
use Rattle.std.proofs.Common.{◌≡◌, ◌∙◌, ◌+◌, ◌-◌, ◌<◌, ◌∷◌, [], length, length-append, ap, arith, rules, subst, sym, IsTrue}
use Rattle.c_calls.specs.Types.{Settings, CpuView}
use Rattle.registry_values.specs.Common.{are_fit}
use Rattle.registry_values.proofs.Fit.{ranges}
use Rattle.cpu_words.specs.Common.{Named, Seated, new_cpu}
use Rattle.name_registry.proofs.Closed.{at_none}
use Rattle.c_calls.specs.Opening.{boxed, opened_cpu, opened_down}
use Rattle.c_calls.proofs.Handles.{boxed_last}
use Rattle.c_calls.proofs.Opened.{down_more, all_left, take_last}
use Rattle.c_calls.proofs.opening.cpus_of.Goals as goal

pub loop-seat-init : goal.loop-seat-init
loop-seat-init c =
    let n = c.args.words.now.value.settings.cpus in
    let none : 0 ≡ n - length c.args.seats.items = omega (arith, c.requires.seats.count) in
    let empty : c.new-cpus.result.items ≡ [] = search rules in
    (all_left _ _ _ c.requires.seats, ap boxed empty ∙ ap (opened_down c.args.words.now.value n) none)

pub overflow_cast-id : goal.overflow_cast-id
overflow_cast-id c =
    let taken = take_last _ _ _ _ _ c.in-Some.ensures.items c.loop-seat.invariant.0 in
    omega (arith, c.len-id.ensures, c.pop.new.self.ok.0, taken.few, (ranges c.args.words.now.value.settings c.requires.fit).cpus)

pub of_seat-cpu-requires-clause-fit : goal.of_seat-cpu-requires-clause-fit
of_seat-cpu-requires-clause-fit c =
    let taken = take_last _ _ _ _ _ c.in-Some.ensures.items c.loop-seat.invariant.0 in
    let few : c.len-id.result < c.args.words.now.value.settings.cpus = omega (arith, c.len-id.ensures, c.pop.new.self.ok.0, taken.few) in
    subst (λ (z : Settings). IsTrue (are_fit z) × (c.len-id.result < z.cpus)) (sym (ap (λ (s : Seated CpuView). s.view.settings) taken.last)) (c.requires.fit, few)

pub of_seat-cpu-requires-clause-new : goal.of_seat-cpu-requires-clause-new
of_seat-cpu-requires-clause-new c =
    let taken = take_last _ _ _ _ _ c.in-Some.ensures.items c.loop-seat.invariant.0 in
    let its = sym (ap (λ (s : Seated CpuView). s.view.settings) taken.last) in
    ap (λ (s : Seated CpuView). s.view) taken.last ∙ (λ i. new_cpu (its i) ((sym (c.len-id.ensures ∙ c.pop.new.self.ok.0)) i))

pub of_seat-cpu-requires-clause-rows : goal.of_seat-cpu-requires-clause-rows
of_seat-cpu-requires-clause-rows c =
    let taken = take_last _ _ _ _ _ c.in-Some.ensures.items c.loop-seat.invariant.0 in
    c.in_ok-rows.ensures ∙ ap (λ (z : Settings). z.slots) (c.settings.ensures ∙ ap (λ (w : Named). w.settings) c.deref.ensures ∙ sym (ap (λ (s : Seated CpuView). s.view.settings) taken.last))

pub of-body-requires : goal.of-body-requires
of-body-requires c =
    let taken = take_last _ _ _ _ _ c.in-Some.ensures.items c.loop-seat.invariant.0 in
    let table = ap (λ (s : Seated CpuView). s.table) taken.last in
    let settings = ap (λ (s : Seated CpuView). s.view.settings) taken.last in
    let its = c.of_seat-cpu.ensures.words in
    let shared = c.in_ok-share.ensures in
    record { words = (ap (λ (n : Named). n.table) shared ∙ sym table ∙ sym (ap (λ (n : Named). n.table) its), ap (λ (n : Named). n.settings) shared ∙ sym settings ∙ sym (ap (λ (n : Named). n.settings) its)) }

pub loop-seat-preserved : goal.loop-seat-preserved
loop-seat-preserved c =
    let w = c.args.words.now.value in
    let n = c.args.words.now.value.settings.cpus in
    let seats = c.pop.new.self.items in
    let left = length seats in
    let taken = take_last _ _ _ _ _ c.in-Some.ensures.items c.loop-seat.invariant.0 in
    let count : length c.loop-seat.seats.items ≡ left + 1 = ap length c.in-Some.ensures.items ∙ length-append seats (c.in-Some.seat ∷ []) in
    let so_far : boxed c.loop-seat.cpus.items ≡ opened_down w n (n - (left + 1)) = c.loop-seat.invariant.1 ∙ ap (λ m. opened_down w n (n - m)) count in
    let named : c.of_seat-cpu.result.words ≡ w = c.of_seat-cpu.ensures.words ∙ (λ i. record {
      table = (ap (λ (s : Seated CpuView). s.table) taken.last) i;
      settings = (ap (λ (s : Seated CpuView). s.view.settings) taken.last) i;
    }) in
    let fresh : c.of_seat-cpu.result.cpu ≡ (opened_cpu w left).cpu = c.of_seat-cpu.ensures.cpu ∙ (λ i. record {
      view = (ap (λ (s : Seated CpuView). s.view) taken.last) i;
      depth = 0;
      made = 0;
      memory = no_memory (ap (λ (s : Seated CpuView). s.view.settings) taken.last i).slots;
      known_log = ap (λ (s : Seated CpuView). s.known_log) taken.last i;
      log = ap (λ (s : Seated CpuView). s.log) taken.last i;
    }) in
    let pushed = ap boxed c.in_ok-push.ensures.items ∙ boxed_last c.loop-seat.cpus.items _ in
    (taken.left, pushed ∙ down_more w n left (boxed c.loop-seat.cpus.items) _ taken.few so_far (c.in_ok-new.ensures.ok ∙ (c.of-body.ensures ∙ (λ i. record { words = named i; cpu = fresh i }))))

pub returns : goal.returns
returns c =
    let n = c.args.words.now.value.settings.cpus in
    let none : length c.loop-seat.seats.items ≡ 0 = omega (arith, (at_none _ c.pop.result c.pop.ensures.cases c.in_default.not-Some).0, c.loop-seat.seats.ok.0) in
    let all : n - length c.loop-seat.seats.items ≡ n = omega (arith, none) in
    c.loop-seat.invariant.1 ∙ ap (opened_down c.args.words.now.value n) all
