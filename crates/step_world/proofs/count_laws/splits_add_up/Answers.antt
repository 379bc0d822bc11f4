use Rattle.step_world.proofs.Counts.{splits_add_up}
use Rattle.step_world.proofs.count_laws.splits_add_up.Goals as goal

pub returns : goal.returns
returns c = splits_add_up
