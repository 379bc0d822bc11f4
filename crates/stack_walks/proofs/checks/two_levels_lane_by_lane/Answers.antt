use Rattle.stack_walks.proofs.Sanity.{two_levels_lane_by_lane}
use Rattle.stack_walks.proofs.checks.two_levels_lane_by_lane.Goals as goal

pub returns : goal.returns
returns c = two_levels_lane_by_lane
