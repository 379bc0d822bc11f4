use Rattle.sweep_visits.proofs.Sanity.{run_of_four}
use Rattle.sweep_visits.proofs.checks.run_of_four.Goals as goal

pub returns : goal.returns
returns c = run_of_four
