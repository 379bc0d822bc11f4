use Rattle.spacetree.proofs.LeafCounts.{one_count_of_cells}
use Rattle.spacetree.proofs.laws.one_count_of_cells.Goals as goal

pub returns : goal.returns
returns c = one_count_of_cells
