-- One slot on the list after the other.
use Rattle.std.proofs.Common.{◌≡◌, suc, ◌-◌, ◌<◌, [], ◌∷◌, ◌++◌, length, set, refl, sym, ap, ◌∙◌, subst, arith, length-append, length-set, append_assoc}
use Rattle.passive_list.specs.Types.{Entry, Iface, Key, Seek, LoadLink, Done, Settings, MOST_SLOTS, CpuView}
use Rattle.cpu_words.specs.Common.{did, HasFollowed, cpu_after_seek, search_for, key_with, link_answer}
use Rattle.cpu_words.proofs.seats.Seating.{step_is_shown}
use Rattle.passive_list.specs.Common.{nobody, IsGoingOver, IsWritten}
use Rattle.passive_list.proofs.GoingOver.{going_begins, on_slot, slot_within, may_go_by, may_go_on, room_for_next, goes_by_next, none_written, one_more_written, few_stood_on, going_id, gone_by_there, gone_over}
use Rattle.passive_list.proofs.Walking.{walk_begun, one_gone_by, walk_over}
use Rattle.passive_list.proofs.walks.go_over.Given.{Over}
use Rattle.passive_list.proofs.walks.go_over.Goals.{After-go_by-entry}
use Rattle.passive_list.proofs.walks.go_over.Goals as goal

pub loop-link-init : goal.loop-link-init
loop-link-init g c =
    let x = c.args.seat.now.view in
    let y = c.seek-link.new.seat.view in
    let m = c.seek-link.result in
    let key : key_with Iface c.of_words.result ≡ nobody = ap (key_with Iface) c.of_words.ensures in
    let had = subst (λ (k : Key). HasFollowed (cpu_after_seek k x) (search_for k x) m y) key c.seek-link.ensures.change in
    let over = going_begins x y m had in
    record {
      table = c.seek-link.ensures.step.table;
      cpu = going_id x y [] m over ∙ c.requires.cpu.1;
      is_shown = step_is_shown c.seek-link.ensures.event;
      known_log = c.seek-link.ensures.step.known_log;
      log = walk_begun c.args.cpu _ _ _ (c.seek-link.ensures.step.log
          ∙ ap (λ (k : Key). c.args.seat.now.log ++ (did (Seek c.args.cpu k.kind k.name) Done ++ did (LoadLink c.args.cpu) (link_answer m))) key);
      ends = (c.args.seat.now.log ++ did (Seek c.args.cpu Iface c.of_words.result) Done, rw append_assoc c.seek-link.ensures.step.log);
      few = omega arith;
      size = refl;
      met = ([], refl, over, none_written g.W.WritesEntry.written c.args.row.now);
    }

pub go_by-entry-requires-clause-cpu : goal.go_by-entry-requires-clause-cpu
go_by-entry-requires-clause-cpu g c = (c.requires.cpu.0, c.loop-link.invariant.cpu)

pub go_by-entry-requires-clause-slot : goal.go_by-entry-requires-clause-slot
go_by-entry-requires-clause-slot g c =
    let within = slot_within _ _ _ _ (on_slot _ _ _ _ c.loop-link-test.true c.loop-link.invariant.met.2) in
    (within.0, subst (λ (z : Settings). c.loop-link.link - 1 < z.slots) c.requires.settings within.1)

pub go_by-entry-requires-clause-may : goal.go_by-entry-requires-clause-may
go_by-entry-requires-clause-may g c = may_go_by _ _ _ _ (on_slot _ _ _ _ c.loop-link-test.true c.loop-link.invariant.met.2)

-- where the walk stood as it came to the slot
on : (g : Over) (c : After-go_by-entry g) → IsGoingOver c.args.seat.now.view c.loop-link.invariant.met.0 (suc (c.loop-link.link - 1)) c.loop-link.seat.view
on g c = on_slot _ _ _ _ c.loop-link-test.true c.loop-link.invariant.met.2

room : (g : Over) (c : After-go_by-entry g) → c.loop-link.count < MOST_SLOTS
room g c = omega (arith, room_for_next _ _ _ _ _ _ (on g c) c.go_by-entry.ensures.change.3, c.loop-link.invariant.met.1)

pub load_link-link-requires-clause-cpu : goal.load_link-link-requires-clause-cpu
load_link-link-requires-clause-cpu g c =
    (c.requires.cpu.0, ap (λ (v : CpuView). v.id) (gone_by_there _ _ _ _ _ _ (on g (goal.at.load_link-link-requires-clause-cpu g c).After-go_by-entry) c.go_by-entry.ensures.change.3).is ∙ c.loop-link.invariant.cpu)

pub load_link-link-requires-clause-slot : goal.load_link-link-requires-clause-slot
load_link-link-requires-clause-slot g c =
    let within = slot_within _ _ _ _ (on g (goal.at.load_link-link-requires-clause-slot g c).After-go_by-entry) in
    (omega (arith, c.loop-link-test.true), omega (arith, within), omega (arith, within, ap (λ (z : Settings). z.slots) c.requires.settings))

pub load_link-link-requires-clause-may : goal.load_link-link-requires-clause-may
load_link-link-requires-clause-may g c = may_go_on _ _ _ _ _ _ (on g (goal.at.load_link-link-requires-clause-may g c).After-go_by-entry) c.go_by-entry.ensures.change.3

pub loop-link-smaller : goal.loop-link-smaller
loop-link-smaller g c =
    omega (arith, room g (goal.at.loop-link-smaller g c).After-go_by-entry)

pub loop-link-preserved : goal.loop-link-preserved
loop-link-preserved g c =
    let v = (goal.at.loop-link-preserved g c).After-go_by-entry in
    let x = c.args.seat.now.view in
    let w = c.load_link-link.new.seat.view in
    let row = c.loop-link.row in
    let had = c.loop-link.invariant.met in
    let there = c.go_by-entry.ensures.change in
    let e : Entry = there.0 in
    let written = c.write_at.ensures e (there.1) there.2 in
    let few = room g v in
    let more = goes_by_next x _ _ w had.0 _ c.load_link-link.result e (on g v) c.go_by-entry.ensures.change.3 c.load_link-link.ensures.change in
    let put = one_more_written g.W.WritesEntry.written had.0 e c.args.row.now row c.loop-link.invariant.size had.3 in
    let size = length-append had.0 (e ∷ []) in
    record {
      table = c.load_link-link.ensures.step.table ∙ c.go_by-entry.ensures.table ∙ c.loop-link.invariant.table;
      cpu = going_id x w (had.0 ++ e ∷ []) c.load_link-link.result more ∙ c.requires.cpu.1;
      is_shown = step_is_shown c.load_link-link.ensures.step.event;
      known_log = c.load_link-link.ensures.step.known_log ∙ c.go_by-entry.ensures.known_log ∙ c.loop-link.invariant.known_log;
      log = one_gone_by c.args.cpu c.loop-link.count _ _ _ _ _ c.loop-link.invariant.log c.go_by-entry.ensures.log c.load_link-link.ensures.step.log;
      ends = (c.go_by-entry.new.seat.log, c.load_link-link.ensures.step.log);
      few = omega (arith, few);
      size = ap length written ∙ length-set row c.loop-link.count (g.W.WritesEntry.written e) ∙ c.loop-link.invariant.size;
      met = (
        had.0 ++ e ∷ [],
        omega (arith, size, had.1),
        more,
        subst (λ r. IsWritten g.W.WritesEntry.written (had.0 ++ e ∷ []) c.args.row.now r) (ap (λ n. set row n (g.W.WritesEntry.written e)) (sym had.1) ∙ sym written) put,
      );
    }

pub returns-clause-change : goal.returns-clause-change
returns-clause-change g c =
    let x = c.args.seat.now.view in
    let had = c.loop-link.invariant.met in
    (had.0, had.1, gone_over x c.loop-link.seat.view had.0 (subst (λ m. IsGoingOver x had.0 m c.loop-link.seat.view) c.loop-link-test.false had.2), had.3)

pub returns-clause-log : goal.returns-clause-log
returns-clause-log g c =
    let x = c.args.seat.now.view in
    let had = c.loop-link.invariant.met in
    let few = (few_stood_on _ _ _ _ had.0 had.2.tells had.2.over).0 in
    walk_over c.args.cpu x.settings.slots c.loop-link.link c.loop-link.count _ _ c.loop-link-test.false (omega (arith, few, had.1)) c.loop-link.invariant.log c.loop-link.invariant.ends
