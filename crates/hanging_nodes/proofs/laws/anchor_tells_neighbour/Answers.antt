use Rattle.hanging_nodes.proofs.Told.{anchor_tells_neighbour}
use Rattle.hanging_nodes.proofs.laws.anchor_tells_neighbour.Goals as goal

pub returns : goal.returns
returns c = anchor_tells_neighbour
