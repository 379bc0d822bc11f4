use Rattle.hanging_nodes.proofs.Told.{storedness_from_above}
use Rattle.hanging_nodes.proofs.laws.stored_by_the_corner_above.Goals as goal

pub returns : goal.returns
returns c = storedness_from_above
