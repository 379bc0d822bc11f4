-- Laws: what a walk visits round a kept vertex, below a closed cell, and how often.
use Rattle.std.specs.Prelude.{◌≡◌, ◌⊎◌, ℕ, ◌-◌, ◌≤◌, ◌==◌, ◌&&◌, Bool, true, List, [], ◌∷◌, flat_map}
use Rattle.stack_law.specs.Boxes.{Axis, Box, Direction}
use Rattle.stack_law.specs.Domain.{root}
use Rattle.stack_law.specs.Moments.{same_box}
use Rattle.stack_law.specs.Order.{extent}
use Rattle.stack_law.specs.Stack.{AreDistinct}
use Rattle.stack_law.specs.Visits.{Visit, enter, leave, walls}
use Rattle.stack_law.specs.Walk.{walk, ClosedAreEmpty}
use Rattle.stack_walks.specs.Grids.{IsStored, KeptAreStored, meets_range, both_hold, one_holds}
use Rattle.stack_walks.specs.Handing.{KeptUnbroken}
use Rattle.stack_walks.specs.Streams.{AgreeRoundKept}

-- each kept vertex has round it cells of the old grid alone, or of the new grid alone
abbrev pub KeptAreStoredInOne : (ℕ → Axis) → (ℕ → Bool) → ℕ → (ℕ → Box → Bool) → (ℕ → Box → Bool)
    → (ℕ → Box → Bool) → Type 0
KeptAreStoredInOne axis is_cell splits old new kept = (m : ℕ) (v : Box) → is_cell m ≡ true
    → m ≤ splits → kept m v ≡ true
    → IsStored (extent axis (splits - m) m) (old m) v
    ⊎ IsStored (extent axis (splits - m) m) (new m) v

-- Round a kept vertex the visited cells are unbroken where all cells of a grid are visited.
abbrev pub OneGridIsUnbroken : Type 0
OneGridIsUnbroken = (dir : Direction) (axis : ℕ → Axis) (is_cell : ℕ → Bool) (splits : ℕ)
    (cells kept : ℕ → Box → Bool)
    → KeptAreStored axis is_cell splits cells kept → KeptUnbroken dir axis splits cells kept is_cell

-- So they are where the cells of an old or a new grid are visited.
abbrev pub TwoGridsAreUnbroken : Type 0
TwoGridsAreUnbroken = (dir : Direction) (axis : ℕ → Axis) (is_cell : ℕ → Bool) (splits : ℕ)
    (old new kept : ℕ → Box → Bool)
    → KeptAreStoredInOne axis is_cell splits old new kept
    → KeptUnbroken dir axis splits (one_holds old new) kept is_cell

-- So they are where those of the cells alone are visited that a range holds.
abbrev pub RangesAreUnbroken : Type 0
RangesAreUnbroken = (dir : Direction) (axis : ℕ → Axis) (is_cell : ℕ → Bool) (splits start stop : ℕ)
    (cells kept : ℕ → Box → Bool)
    → KeptAreStored axis is_cell splits cells kept
    → KeptUnbroken dir axis splits
    (both_hold cells (meets_range axis splits start stop)) kept is_cell

-- Where no cell lies below a closed one, no cell that a range holds lies below one that is closed or not held.
abbrev pub RangesAreClosed : Type 0
RangesAreClosed =
    (axis : ℕ → Axis) (is_cell : ℕ → Bool) (splits start stop : ℕ) (cells is_open : ℕ → Box → Bool)
    → ClosedAreEmpty axis is_cell splits cells is_open
    → ClosedAreEmpty axis is_cell splits (both_hold cells (meets_range axis splits start stop))
    (both_hold is_open (meets_range axis splits start stop))

-- Round the vertices that an old grid stores, a walk of that grid and a walk of it and a new one visit the same cells; so do, round the vertices that
-- the new grid stores, a walk of both grids and a walk of the new one. The same holds of the cells that a set, such as a range, has of them.
abbrev pub WalksAgreeRoundKept : Type 0
WalksAgreeRoundKept =
    (axis : ℕ → Axis) (is_cell : ℕ → Bool) (splits : ℕ) (old new held kept : ℕ → Box → Bool)
    → (KeptAreStored axis is_cell splits old kept
    → AgreeRoundKept axis is_cell splits (both_hold old held)
    (both_hold (one_holds old new) held) kept)
    × (KeptAreStored axis is_cell splits new kept
    → AgreeRoundKept axis is_cell splits (both_hold (one_holds old new) held)
    (both_hold new held) kept)

-- a cell by how many splits it has left and by its coordinates
pub record Cell : Type 0 where
  pub splits : ℕ
  pub box : Box

-- whether two cells are the same
abbrev pub same_cell : Cell → Cell → Bool
same_cell c d = (c.splits == d.splits) && same_box c.box d.box

-- the cell that a visit enters
abbrev pub entered_by : Visit → List Cell
entered_by (enter m b io) = record { splits = m; box = b } ∷ []
entered_by (leave m b io) = []

-- the cell that it leaves
abbrev pub left_by : Visit → List Cell
left_by (enter m b io) = []
left_by (leave m b io) = record { splits = m; box = b } ∷ []

-- A walk of some cells enters no cell twice, and leaves none twice.
abbrev pub VisitsHappenOnce : Type 0
VisitsHappenOnce = (dir : Direction) (axis : ℕ → Axis) (is_cell : ℕ → Bool) (splits : ℕ)
    (visited is_open : ℕ → Box → Bool)
    → ClosedAreEmpty axis is_cell splits visited is_open
    → AreDistinct same_cell
    (flat_map entered_by (walk dir axis is_cell visited is_open splits root walls))
    × AreDistinct same_cell
    (flat_map left_by (walk dir axis is_cell visited is_open splits root walls))
