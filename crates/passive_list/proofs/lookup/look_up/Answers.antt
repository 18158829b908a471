-- The search from slot to slot.
use Rattle.std.proofs.Common.{◌≡◌, rules, arith, ◌+◌, ◌-◌, ◌++◌, Bool, true, false, length, ◌∙◌, subst, append_assoc}
use Rattle.passive_list.specs.Types.{Seek, Done}
use Rattle.protocol.specs.Common.{entry_with}
use Rattle.cpu_words.specs.Common.{did, key_with}
use Rattle.cpu_words.proofs.seats.Seating.{step_is_shown}
use Rattle.passive_list.specs.Common.{IsAtLink, IsOn, HasMissed, HasVisited}
use Rattle.passive_list.proofs.Walking.{on_slot, on_way, may_take, may_go, rank_falls, link_begun, follows, found, visit_id, follow_id, search_begun, link_loaded, word_loaded, one_visited, search_missed, search_found}
use Rattle.passive_list.proofs.Visited.{gone_by_none, gone_by_next, few_gone_by, few_found, value_replied}
use Rattle.passive_list.proofs.lookup.look_up.Goals.{After-visit-number}
use Rattle.passive_list.proofs.lookup.look_up.Goals as goal

-- where the search stood as it came to the slot
on : (c : After-visit-number) → IsOn (key_with c.args.kind c.args.name) c.args.seat.now.view (c.loop-link.link - 1) c.loop-link.last c.loop-link.seat.view
on c = on_slot _ _ _ _ _ c.loop-link-test.true c.loop-link.invariant.at

-- what it loaded there, where the entry is the one sought and where it isn't
had : (c : After-visit-number) (b : Bool) → c.visit-number.result.1 ≡ b
    → HasVisited c.loop-link.seat.view (key_with c.args.kind c.args.name) (c.loop-link.link - 1) c.visit-number.result.0 b c.visit-number.new.seat.view
had c b is = subst (λ (b : Bool). HasVisited c.loop-link.seat.view (key_with c.args.kind c.args.name) (c.loop-link.link - 1) c.visit-number.result.0 b c.visit-number.new.seat.view) is
    c.visit-number.ensures.change

its_cpu : (c : After-visit-number) → c.visit-number.new.seat.view.id ≡ c.args.cpu
its_cpu c = visit_id _ _ _ _ _ _ _ _ (on c) c.visit-number.ensures.change ∙ c.loop-link.invariant.cpu

pub loop-link-init : goal.loop-link-init
loop-link-init c = record {
  table = c.seek-link.ensures.step.table;
  cpu = search rules;
  is_shown = step_is_shown c.seek-link.ensures.event;
  known_log = c.seek-link.ensures.step.known_log;
  visited = (0, search_begun c.args.cpu c.args.kind c.args.name _ _ _ c.seek-link.ensures.step.log, gone_by_none _ _ _);
  ends = (c.args.seat.now.log ++ did (Seek c.args.cpu c.args.kind c.args.name) Done, rw append_assoc c.seek-link.ensures.step.log);
  at = link_begun _ _ _ _ _ (λ z r. omega (arith, r.changes)) (step_is_shown c.seek-link.ensures.event) c.seek-link.ensures.change;
}

pub visit-number-requires-clause-may : goal.visit-number-requires-clause-may
visit-number-requires-clause-may c = (length c.args.seat.now.view.pass, on_way _ _ _ _ _ (on_slot _ _ _ _ _ c.loop-link-test.true c.loop-link.invariant.at))

pub load_searched-value-requires-clause-cpu : goal.load_searched-value-requires-clause-cpu
load_searched-value-requires-clause-cpu c = (c.requires.cpu.0, its_cpu (goal.at.load_searched-value-requires-clause-cpu c).After-visit-number)

pub load_searched-value-requires-clause-may : goal.load_searched-value-requires-clause-may
load_searched-value-requires-clause-may c =
    let v = (goal.at.load_searched-value-requires-clause-may c).After-visit-number in
    may_take _ _ _ _ _ _ _ (on v) (had v true c.if-is_sought.true)

pub returns-then-is_sought-clause-change : goal.returns-then-is_sought-clause-change
returns-then-is_sought-clause-change c =
    let v = (goal.at.returns-then-is_sought-clause-change c).After-visit-number in
    found _ _ _ _ _ _ _ _ _ (on v) (had v true c.if-is_sought.true) c.load_searched-value.ensures.change

pub returns-then-is_sought-clause-is_shown : goal.returns-then-is_sought-clause-is_shown
returns-then-is_sought-clause-is_shown c = step_is_shown c.load_searched-value.ensures.step.event

pub returns-then-is_sought-clause-log : goal.returns-then-is_sought-clause-log
returns-then-is_sought-clause-log c =
    let v = (goal.at.returns-then-is_sought-clause-log c).After-visit-number in
    let key = key_with c.args.kind c.args.name in
    let seen = had v true c.if-is_sought.true in
    let so_far = c.loop-link.invariant.visited in
    let loads = one_visited c.args.cpu key so_far.0 _ _ _ _ so_far.1 c.visit-number.ensures.log (word_loaded c.args.cpu _ _ _ c.load_searched-value.ensures.step.log) in
    search_found c.args.cpu _ key (entry_with key (c.loop-link.link - 1) c.visit-number.result.0 c.load_searched-value.result) _ (so_far.0 + 1) _ _ _
    (value_replied _ _ _ _ _ _ _ _ (on v) seen) (few_found _ _ _ _ _ _ _ _ (on v) seen so_far.2) loads c.load_searched-value.ensures.step.log

pub load_link-link-requires-clause-cpu : goal.load_link-link-requires-clause-cpu
load_link-link-requires-clause-cpu c = (c.requires.cpu.0, its_cpu (goal.at.load_link-link-requires-clause-cpu c).After-visit-number)

pub load_link-link-requires-clause-may : goal.load_link-link-requires-clause-may
load_link-link-requires-clause-may c =
    let v = (goal.at.load_link-link-requires-clause-may c).After-visit-number in
    may_go _ _ _ _ _ _ _ (on v) (had v false c.if-is_sought.false)

pub loop-link-smaller : goal.loop-link-smaller
loop-link-smaller c = let v = (goal.at.loop-link-smaller c).After-visit-number in rank_falls _ _ _ _ _ _ _ _ _ (on v) (had v false c.if-is_sought.false) c.load_link-link.ensures.change

pub loop-link-preserved : goal.loop-link-preserved
loop-link-preserved c =
    let v = (goal.at.loop-link-preserved c).After-visit-number in
    let key = key_with c.args.kind c.args.name in
    let x = c.args.seat.now.view in
    let w = c.load_link-link.new.seat.view in
    let seen = had v false c.if-is_sought.false in
    let so_far = c.loop-link.invariant.visited in
    let at : IsAtLink key x c.load_link-link.result c.visit-number.result.0 w = follows _ _ _ _ _ _ _ _ _ (on v) seen c.load_link-link.ensures.change in
    record {
      table = c.load_link-link.ensures.step.table ∙ c.visit-number.ensures.table ∙ c.loop-link.invariant.table;
      cpu = follow_id key x w _ _ at ∙ c.requires.cpu.1;
      is_shown = step_is_shown c.load_link-link.ensures.step.event;
      known_log = c.load_link-link.ensures.step.known_log ∙ c.visit-number.ensures.known_log ∙ c.loop-link.invariant.known_log;
      visited = (
        so_far.0 + 1,
        one_visited c.args.cpu key so_far.0 _ _ _ _ so_far.1 c.visit-number.ensures.log (link_loaded c.args.cpu _ _ _ c.load_link-link.ensures.step.log),
        gone_by_next _ _ _ _ _ _ _ _ _ _ (on v) seen c.load_link-link.ensures.change so_far.2,
      );
      ends = (c.visit-number.new.seat.log, c.load_link-link.ensures.step.log);
      at = at;
    }

pub returns-clause-log : goal.returns-clause-log
returns-clause-log c =
    let key = key_with c.args.kind c.args.name in
    let x = c.args.seat.now.view in
    let so_far = c.loop-link.invariant.visited in
    let missed : HasMissed key x c.loop-link.seat.view = subst (λ m. IsAtLink key x m c.loop-link.last c.loop-link.seat.view) c.loop-link-test.false c.loop-link.invariant.at in
    (search_missed c.args.cpu x.settings.slots key c.loop-link.link so_far.0 _ _ c.loop-link-test.false
    (few_gone_by x so_far.0 c.loop-link.last c.loop-link.seat.view.pass missed.tells so_far.2) so_far.1 c.loop-link.invariant.ends).0
