use Rattle.demonstration.proofs.Throughout.{stays_throughout}
use Rattle.demonstration.proofs.laws.stays_throughout.Goals as goal

pub returns : goal.returns
returns c = stays_throughout
