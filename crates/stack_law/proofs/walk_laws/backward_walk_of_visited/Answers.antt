use Rattle.stack_law.proofs.BackwardVisited.{backward_walk_of_visited}
use Rattle.stack_law.proofs.walk_laws.backward_walk_of_visited.Goals as goal

pub returns : goal.returns
returns c = backward_walk_of_visited
