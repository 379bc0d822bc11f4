use Rattle.peano_run.proofs.Outcomes.{one_report}
use Rattle.peano_run.proofs.laws.one_report.Goals as goal

pub returns : goal.returns
returns c = one_report
