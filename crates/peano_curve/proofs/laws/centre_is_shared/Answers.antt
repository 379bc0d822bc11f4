use Rattle.peano_curve.proofs.Digits.{centre_is_shared}
use Rattle.peano_curve.proofs.laws.centre_is_shared.Goals as goal

pub returns : goal.returns
returns c = centre_is_shared
