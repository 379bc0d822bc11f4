use Rattle.peano_run.proofs.Summaries.{one_summary}
use Rattle.peano_run.proofs.laws.one_summary.Goals as goal

pub returns : goal.returns
returns c = one_summary
