use Rattle.stack_walks.proofs.Instances.{two_grids_use_stacks}
use Rattle.stack_walks.proofs.engine_laws.two_grids_use_stacks.Goals as goal

pub returns : goal.returns
returns c = two_grids_use_stacks
