use Rattle.peano_curve.proofs.Digits.{child_at_place}
use Rattle.peano_curve.proofs.laws.child_at_place.Goals as goal

pub returns : goal.returns
returns c = child_at_place
