use Rattle.sweep_visits.proofs.Sanity.{one_cell}
use Rattle.sweep_visits.proofs.checks.one_cell.Goals as goal

pub returns : goal.returns
returns c = one_cell
