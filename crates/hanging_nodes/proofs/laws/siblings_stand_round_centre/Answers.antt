use Rattle.hanging_nodes.proofs.Told.{siblings_round_centre}
use Rattle.hanging_nodes.proofs.laws.siblings_stand_round_centre.Goals as goal

pub returns : goal.returns
returns c = siblings_round_centre
