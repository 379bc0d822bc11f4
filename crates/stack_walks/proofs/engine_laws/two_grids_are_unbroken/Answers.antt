use Rattle.stack_walks.proofs.Instances.{two_grids_are_unbroken}
use Rattle.stack_walks.proofs.engine_laws.two_grids_are_unbroken.Goals as goal

pub returns : goal.returns
returns c = two_grids_are_unbroken
