use Rattle.std.proofs.Common.{◌≡◌, drop, take}
use Rattle.registry_report.specs.Common.{WritesRun, Registry, Written}
use Rattle.registry_report.specs.Report.{report_from}
use Rattle.registry_report.proofs.run.run_commands.Given as goal

-- the texts so far are written, each one that its command may print; a session that shows a registry shows then the one that the report of the commands left goes on from
abbrev pub invariant-loop-command : goal.invariant-loop-command
invariant-loop-command g l = record {
  kept : g.S.Session.kept l.session ≡ g.S.Session.kept l.fn.session;
  so_far : (r : Registry) → g.S.Session.shows l.fn.session r → (q : Registry) × g.S.Session.shows l.session q
      × Written (g.W.Write.contents l.fn.writer) (g.W.Write.contents l.writer) (report_from r l.commands) (report_from q (drop l.command-index l.commands));
  printed : WritesRun (g.W.Write.contents l.fn.writer) (g.W.Write.contents l.writer) (take l.command-index l.commands);
}
