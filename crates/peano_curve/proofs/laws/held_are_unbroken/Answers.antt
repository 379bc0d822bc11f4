use Rattle.peano_curve.proofs.Held.{held_between}
use Rattle.peano_curve.proofs.laws.held_are_unbroken.Goals as goal

pub returns : goal.returns
returns c = held_between
