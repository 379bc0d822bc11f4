use Rattle.peano_curve.proofs.Ancestors.{interval_is_descendants}
use Rattle.peano_curve.proofs.laws.interval_is_descendants.Goals as goal

pub returns : goal.returns
returns c = interval_is_descendants
