use Rattle.hanging_nodes.proofs.Told.{centre_is_stored}
use Rattle.hanging_nodes.proofs.laws.centre_is_stored.Goals as goal

pub returns : goal.returns
returns c = centre_is_stored
