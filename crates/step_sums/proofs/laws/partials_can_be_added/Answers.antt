use Rattle.step_sums.proofs.Fits.{partials_can_be_added}
use Rattle.step_sums.proofs.laws.partials_can_be_added.Goals as goal

pub returns : goal.returns
returns c = partials_can_be_added
