use Rattle.registry_report.proofs.calls.Sessions.{unlabelled_holds}
use Rattle.registry_report.proofs.core_session.CoreSession.new.Goals as goal

pub invariant_of-result : goal.invariant_of-result
invariant_of-result c = unlabelled_holds c.args.core c.requires c.at_rest.ensures.holds
