use Rattle.spacetree.proofs.LeafCounts.{rows_are_leaves}
use Rattle.spacetree.proofs.laws.rows_are_leaves.Goals as goal

pub returns : goal.returns
returns c = rows_are_leaves
