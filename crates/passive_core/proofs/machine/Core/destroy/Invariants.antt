use Rattle.std.proofs.Common.{◌≡◌, ℕ, true, Ok}
use Rattle.passive_core.specs.Common.{AdvanceLeaves, AdvanceMarks, advance_answer, may_act, AdvanceMakes}
use Rattle.protocol.specs.Common.{at_rest}
use Rattle.passive_core.proofs.machine.Core.destroy.Given as goal

-- the turns so far are as one
abbrev pub invariant-loop : goal.invariant-loop
invariant-loop l = record {
  stage : Ok l.stage ≡ advance_answer l.fn.self l.number;
  after : AdvanceLeaves l.fn.self l.self l.number (Ok l.stage);
  marks : AdvanceMarks l.fn.self l.self l.number (Ok l.stage);
  made : AdvanceMakes l.fn.self l.self l.number (Ok l.stage);
  rest : at_rest l.self.due ≡ true;
  settings : l.self.settings ≡ l.fn.self.settings;
  ready : (d : ℕ) → may_act l.fn.self d ≡ true → may_act l.self d ≡ true;
}
