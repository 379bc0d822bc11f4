use Rattle.peano_curve.proofs.Digits.{ancestor_comes_first}
use Rattle.peano_curve.proofs.laws.ancestor_comes_first.Goals as goal

pub returns : goal.returns
returns c = ancestor_comes_first
