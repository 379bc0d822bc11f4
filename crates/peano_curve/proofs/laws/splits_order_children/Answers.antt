use Rattle.peano_curve.proofs.Digits.{splits_order_children}
use Rattle.peano_curve.proofs.laws.splits_order_children.Goals as goal

pub returns : goal.returns
returns c = splits_order_children
