use Rattle.spacetree.proofs.OpeningExists.{opening_is_grid}
use Rattle.spacetree.proofs.laws.opening_is_grid.Goals as goal

pub returns : goal.returns
returns c = opening_is_grid
