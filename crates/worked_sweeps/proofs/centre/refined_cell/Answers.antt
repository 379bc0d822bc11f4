use Rattle.worked_sweeps.proofs.Corners.{refined_cell}
use Rattle.worked_sweeps.proofs.centre.refined_cell.Goals as goal

pub returns : goal.returns
returns c = refined_cell
