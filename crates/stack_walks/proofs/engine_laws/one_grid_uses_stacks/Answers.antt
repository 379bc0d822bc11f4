use Rattle.stack_walks.proofs.Instances.{one_grid_uses_stacks}
use Rattle.stack_walks.proofs.engine_laws.one_grid_uses_stacks.Goals as goal

pub returns : goal.returns
returns c = one_grid_uses_stacks
