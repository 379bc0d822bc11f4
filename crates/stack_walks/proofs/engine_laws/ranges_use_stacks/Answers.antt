use Rattle.stack_walks.proofs.Ranges.{ranges_use_stacks}
use Rattle.stack_walks.proofs.engine_laws.ranges_use_stacks.Goals as goal

pub returns : goal.returns
returns c = ranges_use_stacks
