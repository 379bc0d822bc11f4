use Rattle.stack_law.proofs.VisitedChildren.{visited_children_in_turn}
use Rattle.stack_law.proofs.walk_laws.visited_children_in_turn.Goals as goal

pub returns : goal.returns
returns c = visited_children_in_turn
