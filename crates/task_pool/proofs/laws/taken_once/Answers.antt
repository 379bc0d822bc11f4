use Rattle.task_pool.proofs.Moves.{taken_once}
use Rattle.task_pool.proofs.laws.taken_once.Goals as goal

pub returns : goal.returns
returns c = taken_once
