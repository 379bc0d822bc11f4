use Rattle.demonstration.proofs.Kernel.{stays_between}
use Rattle.demonstration.proofs.laws.stays_between.Goals as goal

pub returns : goal.returns
returns c = stays_between
