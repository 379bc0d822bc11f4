use Rattle.std.proofs.Common.{◌≤◌, ◌-◌, vec_len, length}
use Rattle.task_pool.specs.Built.{IsBuilt}
use Rattle.task_pool.proofs.parts.Pool.new.Given as goal

abbrev pub invariant-trees : goal.invariant-trees
invariant-trees g l = record {
  within : vec_len l.building.trees ≤ length l.tasks;
  built : IsBuilt l.tasks l.workers l.solver (vec_len l.building.trees) l.building;
}

abbrev pub decreases-trees : goal.decreases-trees
decreases-trees g l = length l.tasks - vec_len l.building.trees
