use Rattle.curve_cuts.proofs.Apart.{leaf_is_owned}
use Rattle.curve_cuts.proofs.laws.leaf_is_owned.Goals as goal

pub returns : goal.returns
returns c = leaf_is_owned
