-- Laws: the walks of the engine use their lanes as stacks.
use Rattle.std.specs.Prelude.{◌≡◌, ◌⊎◌, ℕ, ◌-◌, ◌≤◌, Bool, true, List, [], ◌++◌, Some, reverse, flat_map, ◌↔◌, ◌<◌, ◌*◌, ◌^◌, ◌+◌}
use Rattle.stack_law.specs.Boxes.{Axis, Box, Direction, turned_round, forward}
use Rattle.stack_law.specs.Visits.{walls}
use Rattle.stack_law.specs.Order.{extent, rank}
use Rattle.stack_law.specs.Stack.{Event, run_all}
use Rattle.stack_walks.specs.Corners.{by_corners}
use Rattle.stack_law.specs.Moments.{TellsApart, HoldsTheRest}
use Rattle.stack_walks.specs.Passing.{BoxPassing, box_passing, same_box_passing}
use Rattle.stack_walks.specs.Handing.{goes_on, came_from, KeptUnbroken}
use Rattle.stack_walks.specs.Streams.{taken_in, given_out, AgreeRoundKept}
use Rattle.stack_law.specs.Walk.{walk, ClosedAreEmpty}
use Rattle.stack_walks.specs.Grids.{cells_of, IsStored, is_stored, KeptAreStored, meets_range, both_hold, one_holds}
use Rattle.stack_walks.specs.Fluxes.{by_faces}
use Rattle.stack_law.specs.Domain.{root}

-- what the lanes get in a walk of the visited cells that keeps some vertices
abbrev pub lane_events : Direction → (ℕ → Axis) → (ℕ → Bool) → ℕ → (ℕ → Box → Bool)
    → (ℕ → Box → Bool) → (ℕ → Box → Bool) → List (Event BoxPassing)
lane_events dir axis is_cell splits visited is_open kept = flat_map
    (by_corners BoxPassing box_passing (goes_on dir axis splits visited kept)
    (came_from dir axis splits visited kept))
    (walk dir axis is_cell visited is_open splits root walls)

-- events use lanes as stacks: each pop finds what it wants, at the end nothing is left, and at each moment a lane holds what was given and not taken
pub record UseStacks (A : Type 0) (same : A → A → Bool) (es : List (Event A)) : Type 0 where
  pub emptied : run_all same (λ k. []) es ≡ Some (λ k. [])
  pub moments : (done todo : List (Event A)) → es ≡ done ++ todo → HoldsTheRest A same done

-- A walk passes each kept vertex from visited cell to visited cell by stacks, where the visited cells are unbroken round it.
abbrev pub KeptVerticesUseStacks : Type 0
KeptVerticesUseStacks = (dir : Direction) (axis : ℕ → Axis) (is_cell : ℕ → Bool) (splits : ℕ)
    (visited is_open kept : ℕ → Box → Bool)
    → KeptUnbroken dir axis splits visited kept is_cell
    → ClosedAreEmpty axis is_cell splits visited is_open
    → UseStacks BoxPassing same_box_passing
    (lane_events dir axis is_cell splits visited is_open kept)

-- One grid: the walk of its cells, with vertices that are stored in it.
abbrev pub OneGridUsesStacks : Type 0
OneGridUsesStacks = (dir : Direction) (axis : ℕ → Axis) (is_cell : ℕ → Bool) (splits : ℕ)
    (refined kept : ℕ → Box → Bool)
    → KeptAreStored axis is_cell splits (cells_of axis is_cell splits refined) kept
    → UseStacks BoxPassing same_box_passing
    (lane_events dir axis is_cell splits (cells_of axis is_cell splits refined) refined kept)

-- Two grids: the walk of the cells of an old or a new grid, with vertices that are stored in one of them.
abbrev pub TwoGridsUseStacks : Type 0
TwoGridsUseStacks = (dir : Direction) (axis : ℕ → Axis) (is_cell : ℕ → Bool) (splits : ℕ)
    (old new kept : ℕ → Box → Bool)
    → ((m : ℕ) (v : Box) → is_cell m ≡ true → m ≤ splits → kept m v ≡ true
    → IsStored (extent axis (splits - m) m) (cells_of axis is_cell splits old m) v
    ⊎ IsStored (extent axis (splits - m) m) (cells_of axis is_cell splits new m) v)
    → UseStacks BoxPassing same_box_passing
    (lane_events dir axis is_cell splits
    (one_holds (cells_of axis is_cell splits old) (cells_of axis is_cell splits new))
    (one_holds old new) kept)

-- A tree's range: the walk of those cells of a grid (or of two) that the range meets alone.
abbrev pub RangesUseStacks : Type 0
RangesUseStacks = (dir : Direction) (axis : ℕ → Axis) (is_cell : ℕ → Bool) (splits start stop : ℕ)
    (cells is_open kept : ℕ → Box → Bool)
    → KeptAreStored axis is_cell splits cells kept
    → ClosedAreEmpty axis is_cell splits cells is_open
    → UseStacks BoxPassing same_box_passing
    (lane_events dir axis is_cell splits (both_hold cells (meets_range axis splits start stop))
    (both_hold is_open (meets_range axis splits start stop)) kept)

-- Fluxes: one item for each face between two cells of a grid, named by its level and the cell that receives it.
abbrev pub FluxesUseStacks : Type 0 → Type 0
FluxesUseStacks A = (same : A → A → Bool) → TellsApart A same
    → (name : ℕ → Box → Box → A) (splits_of : A → ℕ) (receiver_of : A → Box)
    → ((m : ℕ) (p q : Box) → splits_of (name m p q) ≡ m)
    → ((m : ℕ) (p q : Box) → receiver_of (name m p q) ≡ q)
    → (dir : Direction) (axis : ℕ → Axis) (is_cell : ℕ → Bool) (splits : ℕ)
    (cells is_open : ℕ → Box → Bool)
    → ClosedAreEmpty axis is_cell splits cells is_open
    → UseStacks A same
    (flat_map (by_faces A name cells) (walk dir axis is_cell cells is_open splits root walls))

-- Below a cell that is not refined a grid has no cells; below one that is refined in neither of two grids neither has cells.
abbrev pub GridsAreClosed : Type 0
GridsAreClosed =
    ((axis : ℕ → Axis) (is_cell : ℕ → Bool) (splits : ℕ) (refined : ℕ → Box → Bool)
    → ClosedAreEmpty axis is_cell splits (cells_of axis is_cell splits refined) refined)
    × ((axis : ℕ → Axis) (is_cell : ℕ → Bool) (splits : ℕ) (old new : ℕ → Box → Bool)
    → ClosedAreEmpty axis is_cell splits
    (one_holds (cells_of axis is_cell splits old) (cells_of axis is_cell splits new))
    (one_holds old new))

-- The test of the grid cells round a vertex is exact.
abbrev pub StoredTestIsExact : Type 0
StoredTestIsExact = (bound : Axis → ℕ) (cells : Box → Bool) (v : Box)
    → (is_stored bound cells v ≡ true) ↔ IsStored bound cells v

-- The output of a walk, read from its end, is the input of the next walk.
abbrev pub NextWalkReadsTheOutput : Type 0 → Type 0
NextWalkReadsTheOutput A = (name : ℕ → Box → A) (dir : Direction) (axis : ℕ → Axis)
    (is_cell : ℕ → Bool) (splits : ℕ) (visited is_open visited' is_open' kept : ℕ → Box → Bool)
    → ClosedAreEmpty axis is_cell splits visited is_open
    → ClosedAreEmpty axis is_cell splits visited' is_open'
    → AgreeRoundKept axis is_cell splits visited visited' kept
    → reverse
    (flat_map (given_out A name dir axis splits visited kept)
    (walk dir axis is_cell visited is_open splits root walls))
    ≡ flat_map (taken_in A name (turned_round dir) axis splits visited' kept)
    (walk (turned_round dir) axis is_cell visited' is_open' splits root walls)

-- The test of a range is exact: the cell's interval and the range have a position in common.
abbrev pub RangeTestIsExact : Type 0
RangeTestIsExact = (axis : ℕ → Axis) (splits start stop m : ℕ) (b : Box)
    → (meets_range axis splits start stop m b ≡ true)
    ↔ ((p : ℕ) × (start ≤ p) × (p < stop) × (rank forward axis (splits - m) m b * 3 ^ m ≤ p)
    × (p < (rank forward axis (splits - m) m b + 1) * 3 ^ m))
