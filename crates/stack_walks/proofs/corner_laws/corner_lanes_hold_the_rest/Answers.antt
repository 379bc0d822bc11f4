use Rattle.stack_walks.proofs.GivenCorners.{corner_lanes_hold_the_rest}
use Rattle.stack_walks.proofs.corner_laws.corner_lanes_hold_the_rest.Goals as goal

pub returns : goal.returns
returns c = corner_lanes_hold_the_rest
