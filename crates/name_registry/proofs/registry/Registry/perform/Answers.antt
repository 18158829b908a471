use Rattle.std.proofs.Common.{◌≡◌, ◌∙◌, false, Result, IfErr, sym, subst}
use Rattle.name_registry.specs.Types.{Refusal}
use Rattle.name_registry.specs.Common.{IsPerformRefusal, is_inside}
use Rattle.name_registry.proofs.Attached.{inside_is}
use Rattle.name_registry.proofs.Noted.{waited_outside, waiting_refused}
use Rattle.name_registry.proofs.Passed.{performs_outside, told_small}
use Rattle.name_registry.proofs.Waited.{learns_performed, promised, waited_ok}
use Rattle.name_registry.proofs.registry.Registry.perform.Goals as goal

pub returns : goal.returns
returns g c =
    let z = g.D.Domain.settings in
    let x = c.args.cpu.now in
    let y = c.perform_in_turns.new.cpu in
    let told = c.perform_in_turns.result in
    let is = c.waiting_for.ensures.value in
    let made = c.perform_in_turns.ensures in
    let outside : is_inside x ≡ false = sym (inside_is _ _ c.inside.ensures) ∙ c.if-inside.false in
    record {
      done = waited_outside (is_inside x) c.waiting_for.result outside;
      refused = subst (λ (r : Result (Unit {0}) Refusal). IfErr r (λ f. IsPerformRefusal z (is_inside x) f)) (sym is)
          (waiting_refused z (is_inside x) told outside (told_small z c.args.turns x y told made));
      waited = waited_ok z c.args.turns x told y c.waiting_for.result is made;
      ended = promised z x y c.waiting_for.result (waited_ok z c.args.turns x told y c.waiting_for.result is made);
      made = performs_outside z c.args.turns (is_inside x) x y told c.waiting_for.result outside is made;
      learned = learns_performed z c.args.turns x told y made;
    }
