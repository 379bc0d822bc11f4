use Rattle.peano_curve.proofs.Boxes.{ranks_are_places}
use Rattle.peano_curve.proofs.laws.ranks_are_places.Goals as goal

pub returns : goal.returns
returns c = ranks_are_places
