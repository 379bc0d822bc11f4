use Rattle.step_world.proofs.Failing.{least_over_trees}
use Rattle.step_world.proofs.count_laws.least_over_trees.Goals as goal

pub returns : goal.returns
returns c = least_over_trees
