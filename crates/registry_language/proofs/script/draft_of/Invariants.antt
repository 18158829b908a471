use Rattle.std.proofs.Common.{◌≡◌, ◌+◌, drop, map}
use Rattle.registry_language.specs.Grammar.{draft_of_lines}
use Rattle.registry_language.specs.Program.{empty_draft}
use Rattle.registry_language.proofs.script.draft_of.Given as goal

-- the lines so far and those that are left are all lines
abbrev pub invariant-loop-index : goal.invariant-loop-index
invariant-loop-index l = draft_of_lines (l.index + 1) l.draft (drop l.index (map (λ x. x.now) l.lines)) ≡ draft_of_lines 1 empty_draft (map (λ x. x.now) l.lines)
