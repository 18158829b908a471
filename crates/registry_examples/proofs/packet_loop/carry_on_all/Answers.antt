use Rattle.std.proofs.Common.{◌≡◌, ◌≤◌, arith, length, vec_len}
use Rattle.registry_examples.specs.{answers_in, total_of}
use Rattle.registry_examples.proofs.Accounted.{all_given, if_ok}
use Rattle.registry_examples.proofs.Searched.{all_given as counted_given}
use Rattle.registry_examples.proofs.packet_loop.carry_on_all.Goals as goal

pub returns-clause-made : goal.returns-clause-made
returns-clause-made g c =
    let carriers = c.args.carriers in
    all_given _ _ carriers.items (λ v. v.items) c.map_vec.result c.map_vec.ensures.each
    (if_ok (λ v. vec_len v ≡ vec_len carriers) (λ v. length v.items ≡ length carriers.items) c.map_vec.result (λ v same. let new = v.ok in let old = carriers.ok in omega (arith, new, old, same)) c.map_vec.ensures.len)
    (λ x r said. if_ok _ (λ p. p.1.made ≡ x.made) r (λ p both. both.0) said.met)

pub returns-clause-counted : goal.returns-clause-counted
returns-clause-counted g c =
    let carriers = c.args.carriers in
    counted_given _ _ carriers.items (λ v. v.items) c.map_vec.result c.map_vec.ensures.each
    (if_ok (λ v. vec_len v ≡ vec_len carriers) (λ v. length v.items ≡ length carriers.items) c.map_vec.result (λ v same. let new = v.ok in let old = carriers.ok in omega (arith, new, old, same)) c.map_vec.ensures.len)
    (λ x r said. if_ok _ (λ p. total_of p.0 ≤ answers_in p.1.log) r (λ p both. both.1) said.met)
