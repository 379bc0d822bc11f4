use Rattle.stack_walks.proofs.Instances.{grids_are_closed}
use Rattle.stack_walks.proofs.engine_laws.grids_are_closed.Goals as goal

pub returns : goal.returns
returns c = grids_are_closed
