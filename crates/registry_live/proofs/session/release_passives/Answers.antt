-- `release_passives`: its clauses `released` and `only`.
use Rattle.std.proofs.Common.{◌≡◌, length, rules, arith}
use Rattle.registry_live.proofs.Labelled.{all_released, none_left, released_next}
use Rattle.registry_live.proofs.Ended.{all_then}
use Rattle.registry_live.proofs.session.release_passives.Goals as goal

-- what the pattern of the array says of each of its 26 values: the value is at its place (`a-1.given.1`, and so on)
pub returns-clause-released : goal.returns-clause-released
returns-clause-released g c =
    let n : length c.args.passives ≡ 26 = search (rules, arith) in
    let r1 = released_next _ _ _ c.args.passives 0 _ (omega (arith, n)) (none_left c.args.cpus.now c.args.passives) c.release_passive.ensures.labels c.a-1.given.1 in
    let r2 = released_next _ _ _ c.args.passives 1 _ (omega (arith, n)) r1 c.release_passive-2.ensures.labels c.b-1.given.1 in
    let r3 = released_next _ _ _ c.args.passives 2 _ (omega (arith, n)) r2 c.release_passive-3.ensures.labels c.c-1.given.1 in
    let r4 = released_next _ _ _ c.args.passives 3 _ (omega (arith, n)) r3 c.release_passive-4.ensures.labels c.d-1.given.1 in
    let r5 = released_next _ _ _ c.args.passives 4 _ (omega (arith, n)) r4 c.release_passive-5.ensures.labels c.e-1.given.1 in
    let r6 = released_next _ _ _ c.args.passives 5 _ (omega (arith, n)) r5 c.release_passive-6.ensures.labels c.f-1.given.1 in
    let r7 = released_next _ _ _ c.args.passives 6 _ (omega (arith, n)) r6 c.release_passive-7.ensures.labels c.g-1.given.1 in
    let r8 = released_next _ _ _ c.args.passives 7 _ (omega (arith, n)) r7 c.release_passive-8.ensures.labels c.h-1.given.1 in
    let r9 = released_next _ _ _ c.args.passives 8 _ (omega (arith, n)) r8 c.release_passive-9.ensures.labels c.i-1.given.1 in
    let r10 = released_next _ _ _ c.args.passives 9 _ (omega (arith, n)) r9 c.release_passive-10.ensures.labels c.j-1.given.1 in
    let r11 = released_next _ _ _ c.args.passives 10 _ (omega (arith, n)) r10 c.release_passive-11.ensures.labels c.k-1.given.1 in
    let r12 = released_next _ _ _ c.args.passives 11 _ (omega (arith, n)) r11 c.release_passive-12.ensures.labels c.l-1.given.1 in
    let r13 = released_next _ _ _ c.args.passives 12 _ (omega (arith, n)) r12 c.release_passive-13.ensures.labels c.m-1.given.1 in
    let r14 = released_next _ _ _ c.args.passives 13 _ (omega (arith, n)) r13 c.release_passive-14.ensures.labels c.n-1.given.1 in
    let r15 = released_next _ _ _ c.args.passives 14 _ (omega (arith, n)) r14 c.release_passive-15.ensures.labels c.o-1.given.1 in
    let r16 = released_next _ _ _ c.args.passives 15 _ (omega (arith, n)) r15 c.release_passive-16.ensures.labels c.p-1.given.1 in
    let r17 = released_next _ _ _ c.args.passives 16 _ (omega (arith, n)) r16 c.release_passive-17.ensures.labels c.q-1.given.1 in
    let r18 = released_next _ _ _ c.args.passives 17 _ (omega (arith, n)) r17 c.release_passive-18.ensures.labels c.r-1.given.1 in
    let r19 = released_next _ _ _ c.args.passives 18 _ (omega (arith, n)) r18 c.release_passive-19.ensures.labels c.s-1.given.1 in
    let r20 = released_next _ _ _ c.args.passives 19 _ (omega (arith, n)) r19 c.release_passive-20.ensures.labels c.t-1.given.1 in
    let r21 = released_next _ _ _ c.args.passives 20 _ (omega (arith, n)) r20 c.release_passive-21.ensures.labels c.u-1.given.1 in
    let r22 = released_next _ _ _ c.args.passives 21 _ (omega (arith, n)) r21 c.release_passive-22.ensures.labels c.v-1.given.1 in
    let r23 = released_next _ _ _ c.args.passives 22 _ (omega (arith, n)) r22 c.release_passive-23.ensures.labels c.w-1.given.1 in
    let r24 = released_next _ _ _ c.args.passives 23 _ (omega (arith, n)) r23 c.release_passive-24.ensures.labels c.x-1.given.1 in
    let r25 = released_next _ _ _ c.args.passives 24 _ (omega (arith, n)) r24 c.release_passive-25.ensures.labels c.y-1.given.1 in
    let r26 = released_next _ _ _ c.args.passives 25 _ (omega (arith, n)) r25 c.release_passive-26.ensures.labels c.z-1.given.1 in
    all_released _ _ c.args.passives n r26

pub returns-clause-only : goal.returns-clause-only
returns-clause-only g c =
    let r1 = c.release_passive.ensures.only in
    let r2 = all_then _ _ _ r1 c.release_passive-2.ensures.only in
    let r3 = all_then _ _ _ r2 c.release_passive-3.ensures.only in
    let r4 = all_then _ _ _ r3 c.release_passive-4.ensures.only in
    let r5 = all_then _ _ _ r4 c.release_passive-5.ensures.only in
    let r6 = all_then _ _ _ r5 c.release_passive-6.ensures.only in
    let r7 = all_then _ _ _ r6 c.release_passive-7.ensures.only in
    let r8 = all_then _ _ _ r7 c.release_passive-8.ensures.only in
    let r9 = all_then _ _ _ r8 c.release_passive-9.ensures.only in
    let r10 = all_then _ _ _ r9 c.release_passive-10.ensures.only in
    let r11 = all_then _ _ _ r10 c.release_passive-11.ensures.only in
    let r12 = all_then _ _ _ r11 c.release_passive-12.ensures.only in
    let r13 = all_then _ _ _ r12 c.release_passive-13.ensures.only in
    let r14 = all_then _ _ _ r13 c.release_passive-14.ensures.only in
    let r15 = all_then _ _ _ r14 c.release_passive-15.ensures.only in
    let r16 = all_then _ _ _ r15 c.release_passive-16.ensures.only in
    let r17 = all_then _ _ _ r16 c.release_passive-17.ensures.only in
    let r18 = all_then _ _ _ r17 c.release_passive-18.ensures.only in
    let r19 = all_then _ _ _ r18 c.release_passive-19.ensures.only in
    let r20 = all_then _ _ _ r19 c.release_passive-20.ensures.only in
    let r21 = all_then _ _ _ r20 c.release_passive-21.ensures.only in
    let r22 = all_then _ _ _ r21 c.release_passive-22.ensures.only in
    let r23 = all_then _ _ _ r22 c.release_passive-23.ensures.only in
    let r24 = all_then _ _ _ r23 c.release_passive-24.ensures.only in
    let r25 = all_then _ _ _ r24 c.release_passive-25.ensures.only in
    let r26 = all_then _ _ _ r25 c.release_passive-26.ensures.only in
    r26
