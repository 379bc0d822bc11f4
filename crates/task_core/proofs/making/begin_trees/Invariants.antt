use Rattle.std.proofs.Common.{◌≡◌, ℕ, length}
use Rattle.curve_cuts.specs.Keys.{cuts_of}
use Rattle.spacetree.specs.Fields.{IsFieldOn}
use Rattle.task_core.specs.Work.{AreServed}
use Rattle.task_core.specs.Visits.{BeginTrees}
use Rattle.task_core.proofs.making.begin_trees.Given as goal

abbrev pub invariant-loop-tree : goal.invariant-loop-tree
invariant-loop-tree l =
    (length l.trees.items ≡ l.tree)
    × BeginTrees (cuts_of l.keys) l.grid l.field l.dir l.trees.items
    × ((n : ℕ) → IsFieldOn n l.grid l.field → AreServed n l.trees.items)
