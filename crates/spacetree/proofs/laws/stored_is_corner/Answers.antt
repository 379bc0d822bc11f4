use Rattle.spacetree.proofs.Corners.{stored_is_corner}
use Rattle.spacetree.proofs.laws.stored_is_corner.Goals as goal

pub returns : goal.returns
returns c = stored_is_corner
