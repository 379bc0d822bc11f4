use Rattle.handed_down.proofs.Inside.{held_below}
use Rattle.handed_down.proofs.laws.whole_is_handed_down.Goals as goal

pub returns : goal.returns
returns c = held_below
