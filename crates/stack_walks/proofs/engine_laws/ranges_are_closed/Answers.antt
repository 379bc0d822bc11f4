use Rattle.stack_walks.proofs.Ranges.{ranges_are_closed}
use Rattle.stack_walks.proofs.engine_laws.ranges_are_closed.Goals as goal

pub returns : goal.returns
returns c = ranges_are_closed
