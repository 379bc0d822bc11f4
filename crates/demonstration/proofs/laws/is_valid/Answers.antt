use Rattle.demonstration.proofs.Plans.{is_valid}
use Rattle.demonstration.proofs.laws.is_valid.Goals as goal

pub returns : goal.returns
returns c = is_valid
