use Rattle.stack_law.proofs.VisitedChildren.{children_in_turn}
use Rattle.stack_law.proofs.walk_laws.children_in_turn.Goals as goal

pub returns : goal.returns
returns c = children_in_turn
