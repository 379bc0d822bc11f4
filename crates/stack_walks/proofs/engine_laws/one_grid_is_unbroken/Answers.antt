use Rattle.stack_walks.proofs.Instances.{one_grid_is_unbroken}
use Rattle.stack_walks.proofs.engine_laws.one_grid_is_unbroken.Goals as goal

pub returns : goal.returns
returns c = one_grid_is_unbroken
