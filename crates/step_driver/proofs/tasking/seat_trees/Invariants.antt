use Rattle.std.proofs.Common.{◌≡◌, ◌+◌, length}
use Rattle.task_pool.specs.Seen.{pool_solver}
use Rattle.step_driver.specs.Tasking.{AreFresh, AreTasksOf}
use Rattle.step_driver.proofs.tasking.seat_trees.Given as goal

abbrev pub invariant-loop-left : goal.invariant-loop-left
invariant-loop-left g l = (length l.all.items + length l.left.items ≡ length l.fn.hands.items) × (l.tree ≡ length l.all.items) × AreFresh l.pool l.tree l.left.items × AreTasksOf (pool_solver l.pool) l.all.items

abbrev pub decreases-loop-left : goal.decreases-loop-left
decreases-loop-left g l = length l.left.items
