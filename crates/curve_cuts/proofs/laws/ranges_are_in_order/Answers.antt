use Rattle.curve_cuts.proofs.Cuts.{ranges_in_order}
use Rattle.curve_cuts.proofs.laws.ranges_are_in_order.Goals as goal

pub returns : goal.returns
returns c = ranges_in_order
