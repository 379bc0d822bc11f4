use Rattle.curve_cuts.proofs.Cuts.{shared_is_had_too}
use Rattle.curve_cuts.proofs.laws.shared_is_had_too.Goals as goal

pub returns : goal.returns
returns c = shared_is_had_too
