use Rattle.spacetree.proofs.Exists.{step_exists}
use Rattle.spacetree.proofs.laws.step_exists.Goals as goal

pub returns : goal.returns
returns c = step_exists
