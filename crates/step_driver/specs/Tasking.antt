-- The tasks of the trees in a step.
use Rattle.std.specs.Prelude.{◌≡◌, ℕ, ◌+◌, ◌<◌, List, length, slice_index_or}
use Rattle.result_table.specs.declared.updates.Updates.{Ghosts}
use Rattle.result_table.specs.Seats.{IsUncollected}
use Rattle.task_pool.specs.declared.parts.Pool.{Pool}
use Rattle.task_pool.specs.declared.parts.TreeHand.{TreeHand}
use Rattle.task_pool.specs.declared.parts.Helper.{Helper}
use Rattle.task_pool.specs.Seen.{IsHandOf, IsHelperOf, tree_of, hand_view}
use Rattle.step_sweeps.specs.Tasks.{TasksSeen}

-- each tree's tasks are computed by a solver
abbrev pub AreTasksOf : {S : Type 0} → S → List (TasksSeen S) → Type 0
AreTasksOf solver tasks = (t : ℕ) (x : TasksSeen _) → t < length tasks
    → (slice_index_or tasks t x).solver ≡ solver

module _ {S : Type 0} {g : Ghosts S} where
  -- hands of a pool's trees, from a tree on, that have gathered nothing
  abbrev pub AreFresh : Pool S g → ℕ → List (TreeHand S g) → Type 0
  AreFresh pool tree hands = (t : ℕ) (h : TreeHand S g) → t < length hands
      → IsHandOf pool (slice_index_or hands t h) × (tree_of (slice_index_or hands t h) ≡ tree + t)
      × ((k : ℕ) → IsUncollected (hand_view (slice_index_or hands t h)) k)

  -- helpers are those of a pool
  abbrev pub AreHelpersOf : Pool S g → List (Helper S g) → Type 0
  AreHelpersOf pool helpers = (j : ℕ) (h : Helper S g) → j < length helpers
      → IsHelperOf pool (slice_index_or helpers j h)
