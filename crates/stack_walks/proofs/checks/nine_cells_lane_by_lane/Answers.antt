use Rattle.stack_walks.proofs.Sanity.{nine_cells_lane_by_lane}
use Rattle.stack_walks.proofs.checks.nine_cells_lane_by_lane.Goals as goal

pub returns : goal.returns
returns c = nine_cells_lane_by_lane
