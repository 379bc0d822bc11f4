use Rattle.task_pool.proofs.Moves.{taken_spawned}
use Rattle.task_pool.proofs.laws.taken_was_spawned.Goals as goal

pub returns : goal.returns
returns c = taken_spawned
