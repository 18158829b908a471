-- The data agree with the view as a reference is added.
use Rattle.std.proofs.Common.{◌≡◌, ◌∷◌, ◌++◌, ◌∙◌, ℕ, None, sym, ap, subst}
use Rattle.passive_list.specs.Types.{Entry, PassiveAdd, Word}
use Rattle.registry_values.specs.Answers as answers
use Rattle.protocol.specs.Common.{IsAttached}
use Rattle.passive_list.specs.Common.{OnCpu, OnPlainCpu}
use Rattle.cpu_words.specs.Common.{IsAt, did, references_to}
use Rattle.cpu_words.proofs.seats.Seating.{step_is_shown}
use Rattle.passive_list.proofs.Agreeing.{own_agrees}
use Rattle.passive_ref.specs.{IsNew, MayRefer, OnPsref, why_full}
use Rattle.passive_ref.proofs.Changing.{added_agrees}
use Rattle.passive_ref.proofs.acquiring.add.Goals as goal

pub invariant_of-cpu : goal.invariant_of-cpu
invariant_of-cpu c =
    let known = subst (λ (o : OnPlainCpu). MayRefer o.cpu.view c.args.slot c.args.number) (sym c.cpu.view_is) c.requires.known in
    let count = c.count_of-count.ensures ∙ ap (λ (o : OnPlainCpu). references_to c.args.number o.cpu.view.references) (sym c.cpu.view_is) in
    own_agrees _ _ _ _ _ _ _ _ _ _ _ (added_agrees _ _ _ _ _ _ _ _ _ _ _ _ _ _ _ _ c.cpu.invariant c.passive_add.ensures.step.table
    (step_is_shown c.passive_add.ensures.step.event) c.passive_add.ensures.change known.few c.passive_add.ensures.alone count)

pub returns-clause-answer : goal.returns-clause-answer
returns-clause-answer c =
    let k = c.cpu.inside in
    let x = k.seat.view in
    let s = c.passive_add.new.seat in
    let n = c.args.number in
    let had = c.passive_add.ensures.change in
    let e : Entry = had.0 in
    let number : n ≡ e.number = sym had.1.number in
    let id : k.row.cpu ≡ x.id = sym c.cpu.invariant.id in
    let a : OnCpu = record { view = x; depth = k.depth; made = 0; memory = k.memory; known_log = k.seat.known_log; log = k.seat.log } in
    let b : OnCpu = record { view = s.view; depth = k.depth; made = 0; memory = k.memory; known_log = s.known_log; log = s.log } in
    let p : OnPsref = record { cpu = k.row.cpu; number = n } in
    let count : c.passive_add.result ≡ references_to e.number x.references = c.passive_add.ensures.count ∙ ap (λ (m : ℕ). references_to m x.references) number in
    let log : s.log ≡ k.seat.log ++ did (PassiveAdd x.id e.number) (Word (references_to e.number x.references)) =
    c.passive_add.ensures.step.log ∙ (λ i. k.seat.log ++ did (PassiveAdd (id i) (number i)) (Word (count i))) in
    let view = had.3 in
    let known = c.passive_add.ensures.step.known_log in
    let after : b ≡ record a { view = record x { references = e ∷ x.references }; log = k.seat.log ++ did (PassiveAdd x.id e.number) (Word (references_to e.number x.references)) } =
    (λ i. record { view = view i; depth = k.depth; made = 0; memory = k.memory; known_log = known i; log = log i }) in
    let new : IsNew e a b p = record { cpu = id; number = number; after = after } in
    let limit : c.settings.result ≡ c.args.cpu.now.cpu.view.settings =
    c.settings.ensures ∙ (c.requires.words.1 ∙ (sym (ap (λ (o : OnPlainCpu). o.words.settings) c.cpu.view_is) ∙ ap (λ (o : OnPlainCpu). o.cpu.view.settings) c.cpu.view_is)) in
    let full : why_full c.args.cpu.now.cpu.view n ≡ None =
    (λ i. answers.why_full (sym c.count_of-count.ensures i) (sym limit i).passive_limit) ∙ (sym c.why_full.ensures.value ∙ c.in_default.is) in (
      full,
      subst (λ (o : OnPlainCpu). (f : Entry) × IsAt f c.args.slot n × IsAttached o.cpu.view.pass f × IsNew f o.cpu b p) c.cpu.view_is (e, had.1, had.2, new),
    )
