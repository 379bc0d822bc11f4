use Rattle.stack_walks.proofs.Sanity.{twenty_seven_cells_lane_by_lane}
use Rattle.stack_walks.proofs.checks.twenty_seven_cells_lane_by_lane.Goals as goal

pub returns : goal.returns
returns c = twenty_seven_cells_lane_by_lane
