use Rattle.peano_curve.proofs.Digits.{order_is_by_digits}
use Rattle.peano_curve.proofs.laws.order_is_by_digits.Goals as goal

pub returns : goal.returns
returns c = order_is_by_digits
