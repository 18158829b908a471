-- `release_locals`: its clause `locals`.
use Rattle.std.proofs.Common.{◌≡◌, length, rules, arith}
use Rattle.registry_live.proofs.Ended.{all_gone, gone_next, none_gone}
use Rattle.registry_live.proofs.session.release_locals.Goals as goal

-- what the pattern of the array says of each of its 26 values: the value is at its place (`a-1.given.1`, and so on)
pub returns-clause-locals : goal.returns-clause-locals
returns-clause-locals g c =
    let n : length c.args.locals ≡ 26 = search (rules, arith) in
    let r1 = gone_next _ _ _ c.args.locals 0 _ (omega (arith, n)) (none_gone c.args.cpus.now c.args.locals) c.release_local.ensures.local c.a-1.given.1 in
    let r2 = gone_next _ _ _ c.args.locals 1 _ (omega (arith, n)) r1 c.release_local-2.ensures.local c.b-1.given.1 in
    let r3 = gone_next _ _ _ c.args.locals 2 _ (omega (arith, n)) r2 c.release_local-3.ensures.local c.c-1.given.1 in
    let r4 = gone_next _ _ _ c.args.locals 3 _ (omega (arith, n)) r3 c.release_local-4.ensures.local c.d-1.given.1 in
    let r5 = gone_next _ _ _ c.args.locals 4 _ (omega (arith, n)) r4 c.release_local-5.ensures.local c.e-1.given.1 in
    let r6 = gone_next _ _ _ c.args.locals 5 _ (omega (arith, n)) r5 c.release_local-6.ensures.local c.f-1.given.1 in
    let r7 = gone_next _ _ _ c.args.locals 6 _ (omega (arith, n)) r6 c.release_local-7.ensures.local c.g-1.given.1 in
    let r8 = gone_next _ _ _ c.args.locals 7 _ (omega (arith, n)) r7 c.release_local-8.ensures.local c.h-1.given.1 in
    let r9 = gone_next _ _ _ c.args.locals 8 _ (omega (arith, n)) r8 c.release_local-9.ensures.local c.i-1.given.1 in
    let r10 = gone_next _ _ _ c.args.locals 9 _ (omega (arith, n)) r9 c.release_local-10.ensures.local c.j-1.given.1 in
    let r11 = gone_next _ _ _ c.args.locals 10 _ (omega (arith, n)) r10 c.release_local-11.ensures.local c.k-1.given.1 in
    let r12 = gone_next _ _ _ c.args.locals 11 _ (omega (arith, n)) r11 c.release_local-12.ensures.local c.l-1.given.1 in
    let r13 = gone_next _ _ _ c.args.locals 12 _ (omega (arith, n)) r12 c.release_local-13.ensures.local c.m-1.given.1 in
    let r14 = gone_next _ _ _ c.args.locals 13 _ (omega (arith, n)) r13 c.release_local-14.ensures.local c.n-1.given.1 in
    let r15 = gone_next _ _ _ c.args.locals 14 _ (omega (arith, n)) r14 c.release_local-15.ensures.local c.o-1.given.1 in
    let r16 = gone_next _ _ _ c.args.locals 15 _ (omega (arith, n)) r15 c.release_local-16.ensures.local c.p-1.given.1 in
    let r17 = gone_next _ _ _ c.args.locals 16 _ (omega (arith, n)) r16 c.release_local-17.ensures.local c.q-1.given.1 in
    let r18 = gone_next _ _ _ c.args.locals 17 _ (omega (arith, n)) r17 c.release_local-18.ensures.local c.r-1.given.1 in
    let r19 = gone_next _ _ _ c.args.locals 18 _ (omega (arith, n)) r18 c.release_local-19.ensures.local c.s-1.given.1 in
    let r20 = gone_next _ _ _ c.args.locals 19 _ (omega (arith, n)) r19 c.release_local-20.ensures.local c.t-1.given.1 in
    let r21 = gone_next _ _ _ c.args.locals 20 _ (omega (arith, n)) r20 c.release_local-21.ensures.local c.u-1.given.1 in
    let r22 = gone_next _ _ _ c.args.locals 21 _ (omega (arith, n)) r21 c.release_local-22.ensures.local c.v-1.given.1 in
    let r23 = gone_next _ _ _ c.args.locals 22 _ (omega (arith, n)) r22 c.release_local-23.ensures.local c.w-1.given.1 in
    let r24 = gone_next _ _ _ c.args.locals 23 _ (omega (arith, n)) r23 c.release_local-24.ensures.local c.x-1.given.1 in
    let r25 = gone_next _ _ _ c.args.locals 24 _ (omega (arith, n)) r24 c.release_local-25.ensures.local c.y-1.given.1 in
    let r26 = gone_next _ _ _ c.args.locals 25 _ (omega (arith, n)) r25 c.release_local-26.ensures.local c.z-1.given.1 in
    all_gone _ _ c.args.locals n r26
