use Rattle.task_pool.proofs.Moves.{takes}
use Rattle.task_pool.proofs.parts.Post.take.Goals as goal

pub steal_as-requires-clause-takes : goal.steal_as-requires-clause-takes
steal_as-requires-clause-takes g c = takes _ _
