use Rattle.stack_law.proofs.Visited.{next_is_least_later_neighbour}
use Rattle.stack_law.proofs.run_laws.next_is_least_later_neighbour.Goals as goal

pub returns : goal.returns
returns c = next_is_least_later_neighbour
