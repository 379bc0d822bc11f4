use Rattle.stack_walks.proofs.Visited.{visits_happen_once}
use Rattle.stack_walks.proofs.engine_laws.visits_happen_once.Goals as goal

pub returns : goal.returns
returns c = visits_happen_once
