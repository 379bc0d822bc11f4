use Rattle.spacetree.proofs.Exists.{next_grid_exists}
use Rattle.spacetree.proofs.laws.next_grid_exists.Goals as goal

pub returns : goal.returns
returns c = next_grid_exists
