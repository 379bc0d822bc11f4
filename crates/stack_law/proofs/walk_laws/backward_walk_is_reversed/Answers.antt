use Rattle.stack_law.proofs.BackwardVisited.{backward_walk_is_reversed}
use Rattle.stack_law.proofs.walk_laws.backward_walk_is_reversed.Goals as goal

pub returns : goal.returns
returns c = backward_walk_is_reversed
