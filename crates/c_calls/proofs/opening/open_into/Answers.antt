-- The handles have the new registry.
use Rattle.std.proofs.Common.{ℕ, length, Some, inl, refl, sym, ap, ◌∙◌, subst}
use Rattle.std.proofs.lemmas.List.{length-map}
use Rattle.c_calls.specs.Opening.{AreGiven, bodies_of, boxed}
use Rattle.c_calls.proofs.Opened.{count_down, given_open}
use Rattle.c_calls.proofs.opening.open_into.Goals as goal

pub give_cpus-requires : goal.give_cpus-requires
give_cpus-requires c = record {
  count = sym (length-map c.in-Ok.bodies.items (λ b. b.value)) ∙ (ap length c.in-Ok.ensures.cpus ∙ (count_down _ _ _ ∙ sym c.requires.count));
  empty = c.requires.empty.1;
}

pub returns-in-Ok : goal.returns-in-Ok
returns-in-Ok c =
    let w = c.in-Ok.made.value.words in
    let all = boxed c.in-Ok.bodies.items in
    let cs = bodies_of c.give_cpus.new.cpus in
    inl (
      refl,
      record {
        words = w;
        settings = c.in-Ok.ensures.settings;
        log = c.in-Ok.made.value.keeper.log;
        keeper = c.give_box.ensures ∙ ap Some c.in-Ok.ensures.keeper;
        cpus = given_open w c.args.settings.cpus all cs c.in-Ok.ensures.cpus (subst (λ (n : ℕ). AreGiven all n cs n) c.requires.count c.give_cpus.ensures);
      },
    )
