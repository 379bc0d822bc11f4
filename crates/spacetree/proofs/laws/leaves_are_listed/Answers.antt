use Rattle.spacetree.proofs.LeafCounts.{leaves_are_listed}
use Rattle.spacetree.proofs.laws.leaves_are_listed.Goals as goal

pub returns : goal.returns
returns c = leaves_are_listed
