-- Laws: what passes from corner to corner uses the lanes as stacks.
use Rattle.std.specs.Prelude.{ℕ, ◌≡◌, Bool, [], Some, flat_map, List, ◌++◌}
use Rattle.stack_law.specs.Boxes.{Axis, Side, Box, Direction}
use Rattle.stack_law.specs.Visits.{visits, walls}
use Rattle.stack_law.specs.Stack.{run_all, Event}
use Rattle.stack_walks.specs.Corners.{Corner, by_corners, AllPass, AllPassToNext}
use Rattle.stack_law.specs.Domain.{root}
use Rattle.stack_law.specs.LaneLaws.{IsReflexive}
use Rattle.stack_law.specs.Moments.{HoldsTheRest}
use Rattle.stack_walks.specs.Passing.{BoxPassing, box_passing, same_box_passing}

-- What goes from corner to corner along the lanes is found there again: each pop finds the item that it wants, and at the end nothing is left.
abbrev pub CornersPassAlongLanes : Type 0 → Type 0
CornersPassAlongLanes A = (same : A → A → Bool) → IsReflexive A same
    → (dir : Direction) (axis : ℕ → Axis) (is_cell : ℕ → Bool) (splits : ℕ)
    (name : ℕ → Box → Box → A) (goes comes : ℕ → Box → Corner → Axis → Side → Bool)
    → AllPass dir axis is_cell splits goes comes
    → run_all same (λ k. [])
    (flat_map (by_corners A name goes comes) (visits dir axis is_cell splits root walls))
    ≡ Some (λ k. [])

-- Each kept vertex goes from each visited cell round it to the next along the lane of their face, and is found there.
abbrev pub VerticesPassAlongLanes : Type 0 → Type 0
VerticesPassAlongLanes A = (same : A → A → Bool) → IsReflexive A same
    → (dir : Direction) (axis : ℕ → Axis) (is_cell : ℕ → Bool) (splits : ℕ)
    (name : ℕ → Box → Box → A) (visited kept : ℕ → Box → Bool)
    (goes comes : ℕ → Box → Corner → Axis → Side → Bool)
    → AllPassToNext dir axis is_cell splits visited kept goes comes
    → run_all same (λ k. [])
    (flat_map (by_corners A name goes comes) (visits dir axis is_cell splits root walls))
    ≡ Some (λ k. [])

-- At each moment of a walk each lane holds exactly the passings that were given and not yet taken, in the order in which they were given; a
-- passing is named by its vertex and the cell that receives it.
abbrev pub CornerLanesHoldTheRest : Type 0
CornerLanesHoldTheRest = (dir : Direction) (axis : ℕ → Axis) (is_cell : ℕ → Bool) (splits : ℕ)
    (goes comes : ℕ → Box → Corner → Axis → Side → Bool)
    → AllPass dir axis is_cell splits goes comes → (done todo : List (Event BoxPassing))
    → flat_map (by_corners BoxPassing box_passing goes comes)
    (visits dir axis is_cell splits root walls)
    ≡ done ++ todo
    → HoldsTheRest BoxPassing same_box_passing done
