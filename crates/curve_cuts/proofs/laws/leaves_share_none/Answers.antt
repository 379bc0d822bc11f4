use Rattle.curve_cuts.proofs.Apart.{leaves_share_none}
use Rattle.curve_cuts.proofs.laws.leaves_share_none.Goals as goal

pub returns : goal.returns
returns c = leaves_share_none
