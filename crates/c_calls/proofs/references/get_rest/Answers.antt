-- What the slow path got is written.
use Rattle.std.proofs.Common.{sym, ap, subst, ◌∙◌}
use Rattle.cpu_words.specs.Common.{key_with}
use Rattle.passive_list.specs.Common.{OnPlainCpu}
use Rattle.name_registry.specs.LookingUp.{HasNotGot, got_of}
use Rattle.c_calls.proofs.Passives.{got_into, same_id}
use Rattle.c_calls.proofs.references.get_rest.Goals as goal

pub returns : goal.returns
returns c a same missed =
    let key = key_with c.args.kind c.args.name in
    let got = c.get_slow-got in
    let put = c.put_got in
    let before = subst (λ (o : OnPlainCpu). HasNotGot key a.cpu o.cpu) (sym c.cpu.view_is) missed in
    got_into key a got.new.cpu (got_of key got.result) c.id-id.result put.result c.args.reference.now put.new.reference (c.id-id.ensures ∙ same_id key a.cpu c.cpu.inside.cpu.cpu before) put.ensures.number
    (got.ensures.gets a.cpu before) put.ensures.refused put.ensures.writes (got.ensures.words ∙ ap (λ (o : OnPlainCpu). o.words) c.cpu.view_is ∙ sym same)
