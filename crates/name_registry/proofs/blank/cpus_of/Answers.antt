use Rattle.std.proofs.Common.{◌≡◌, ◌∙◌, ℕ, ◌+◌, ◌<◌, ◌∷◌, ◌++◌, List, [], length, length-append, ap, sym, subst, arith, append_assoc, IsTrue}
use Rattle.std.proofs.lemmas.List.{length-map}
use Rattle.std.specs.Vec.Iter.{into_iter_items}
use Rattle.std.specs.Global.{Box}
use Rattle.registry_values.specs.Common.{are_fit}
use Rattle.registry_values.proofs.Fit.{ranges}
use Rattle.name_registry.specs.Types.{CpuView, Settings}
use Rattle.cpu_words.specs.Common.{Seated, new_cpu}
use Rattle.passive_list.specs.Common.{OnPlainCpu, no_memory}
use Rattle.name_registry.specs.Common.{AreOpened, boxed, opened_cpu}
use Rattle.name_registry.proofs.Opened.{more_boxed, seat_after}
use Rattle.name_registry.proofs.blank.cpus_of.Goals as goal

pub overflow_cast-id : goal.overflow_cast-id
overflow_cast-id c =
    let i = c.loop-seat.invariant in
    let z = c.args.words.now.settings in
    let after = seat_after c.args.words.now.table z c.args.seats.items c.loop-seat.yielded (into_iter_items c.next.new.self) c.in-Some.seat c.requires.seats
    (i.0 ∙ ap (λ (l : List (Seated CpuView)). c.loop-seat.yielded ++ l) c.in-Some.ensures.steps.0) in
    omega (arith, after.0, c.len-id.ensures, c.loop-seat.cpus.ok.0, i.1.count, length-map c.loop-seat.cpus.items (λ (b : Box OnPlainCpu). b.value), (ranges z c.requires.fit).cpus)

pub of_seat-requires : goal.of_seat-requires
of_seat-requires c =
    let i = c.loop-seat.invariant in
    let z = c.args.words.now.settings in
    let after = seat_after c.args.words.now.table z c.args.seats.items c.loop-seat.yielded (into_iter_items c.next.new.self) c.in-Some.seat c.requires.seats
    (i.0 ∙ ap (λ (l : List (Seated CpuView)). c.loop-seat.yielded ++ l) c.in-Some.ensures.steps.0) in
    let view = ap (λ (s : Seated CpuView). s.view) after.1 in
    let its = ap (λ (v : CpuView). v.settings) view in
    let id : c.len-id.result ≡ length c.loop-seat.yielded =
    omega (arith, c.len-id.ensures, c.loop-seat.cpus.ok.0, i.1.count, length-map c.loop-seat.cpus.items (λ (b : Box OnPlainCpu). b.value)) in
    record {
      fit = subst (λ (z : Settings). IsTrue (are_fit z) × (c.len-id.result < z.cpus)) (sym its) (c.requires.fit, omega (arith, after.0, id));
      new = view ∙ (λ k. new_cpu (sym its k) (sym id k));
      rows = c.in_ok-rows.ensures ∙ ap (λ (z : Settings). z.slots) (c.settings.ensures ∙ sym its);
    }

pub loop-seat-preserved : goal.loop-seat-preserved
loop-seat-preserved c =
    let i = c.loop-seat.invariant in
    let w = c.args.words.now in
    let seen = c.loop-seat.yielded in
    let more = length-append seen (c.in-Some.seat ∷ []) in
    let is = i.0 ∙ ap (λ (l : List (Seated CpuView)). seen ++ l) c.in-Some.ensures.steps.0 in
    let after = seat_after w.table w.settings c.args.seats.items seen (into_iter_items c.next.new.self) c.in-Some.seat c.requires.seats is in
    let words = c.of_seat.ensures.words ∙ (λ j. record { table = (after.1 j).table; settings = (after.1 j).view.settings }) in
    let cpu = c.of_seat.ensures.cpu ∙ (λ j. record {
      view = (after.1 j).view;
      depth = 0;
      made = 0;
      memory = no_memory (after.1 j).view.settings.slots;
      known_log = (after.1 j).known_log;
      log = (after.1 j).log;
    }) in
    let opened : c.of_seat.result ≡ opened_cpu w (length seen) = λ j. record { words = words j; cpu = cpu j } in
    let are = more_boxed w (length seen) c.loop-seat.cpus.items _ i.1 (c.in_ok-new.ensures.ok ∙ opened) in (
      is ∙ sym (append_assoc seen (c.in-Some.seat ∷ []) (into_iter_items c.next.new.self)),
      subst (λ (k : ℕ). AreOpened w k (boxed c.push.new.self.items)) (sym more) (subst (λ (l : List (Box OnPlainCpu)). AreOpened w (length seen + 1) (boxed l)) (sym c.in_ok-push.ensures.items) are),
    )
