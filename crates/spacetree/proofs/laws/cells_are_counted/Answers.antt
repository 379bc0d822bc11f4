use Rattle.spacetree.proofs.LeafCounts.{cells_are_counted}
use Rattle.spacetree.proofs.laws.cells_are_counted.Goals as goal

pub returns : goal.returns
returns c = cells_are_counted
