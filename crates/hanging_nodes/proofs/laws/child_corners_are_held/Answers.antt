use Rattle.hanging_nodes.proofs.Told.{child_corners_held}
use Rattle.hanging_nodes.proofs.laws.child_corners_are_held.Goals as goal

pub returns : goal.returns
returns c = child_corners_held
