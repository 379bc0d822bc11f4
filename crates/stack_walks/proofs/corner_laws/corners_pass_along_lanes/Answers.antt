use Rattle.stack_walks.proofs.Corners.{corners_pass_along_lanes}
use Rattle.stack_walks.proofs.corner_laws.corners_pass_along_lanes.Goals as goal

pub returns : goal.returns
returns g c = corners_pass_along_lanes _
