-- Grids from the lists of their leaves, and when there is none.
use Rattle.std.specs.Prelude.{◌≡◌, ℕ, ◌<◌, ◌≤◌, true, List}
use Rattle.std.specs.FinSet as set
use Rattle.peano_keys.specs.declared.dim.Dim.{Dim}
use Rattle.peano_keys.specs.declared.cell.CellKey.{CellKey}
use Rattle.peano_keys.specs.Cell.{IsCell, parent_of}
use Rattle.peano_keys.specs.Grid.{Cells, Spacetree, IsGrid, has_cell}
use Rattle.spacetree.specs.declared.limits.TheConstants.{MOST_CELLS}
use Rattle.spacetree.specs.declared.fault.LeavesFault.{LeavesFault}
use Rattle.spacetree.specs.declared.fault.LeavesFault.TheVariants.{NotLeaves, NoMemory}
use Rattle.spacetree.specs.Counts.{cells_of, cells_for}
use Rattle.spacetree.specs.Digits.{IsKept}
use Rattle.spacetree.specs.Leaves.{IsCellOf, ListsLeaves, is_among}

-- a grid of a dimension and a depth, with at most 200,000 cells, whose leaves a list is
pub record IsGridOf (dim : Dim) (depth : ℕ) (leaves : List CellKey) (g : Spacetree) : Type 0 where
  pub axes : g.dim ≡ dim
  pub grid : IsGrid depth g
  pub room : cells_of g ≤ MOST_CELLS
  pub lists : ListsLeaves g leaves

-- a grid is the only one whose leaves a list is, of whatever depth and size
abbrev pub IsOneGridOf : Dim → List CellKey → Spacetree → Type 0
IsOneGridOf dim leaves grid = (g : Spacetree) → g.dim ≡ dim → IsGrid 12 g → ListsLeaves g leaves
    → g ≡ grid

-- why a list makes no grid: it is not the leaves of one, or memory was wanting
abbrev pub LeavesFail : Dim → ℕ → List CellKey → LeavesFault → Type 0
LeavesFail dim depth leaves NotLeaves = (g : Spacetree) → IsGridOf dim depth leaves g → ⊥
LeavesFail dim depth leaves NoMemory = Unit {0}

-- the grid of some refined cells
abbrev pub grid_with : Dim → Cells → Spacetree
grid_with dim refined = record { dim = dim; refined = refined }

-- some refined cells with those above a cell: no more than each grid has that has these and the cell
pub record IsLeastWith (old : Cells) (c : CellKey) (new : Cells) : Type 0 where
  pub kept : IsKept old new
  pub above : 0 < c.level → set.contains new (parent_of c) ≡ true
  pub grid : (dim : Dim) (depth : ℕ) → IsCell dim c → c.level ≤ depth
      → IsGrid depth (grid_with dim old) → IsGrid depth (grid_with dim new)
  pub least : (depth : ℕ) (g : Spacetree) → IsGrid depth g → IsKept old g.refined
      → has_cell g c ≡ true → IsKept new g.refined

-- a grid of a dimension and a depth, with at most 200,000 cells, that has a cell and some refined ones
pub record IsGridWith (dim : Dim) (depth : ℕ) (refined : Cells) (c : CellKey)
    (g : Spacetree) : Type 0 where
  pub axes : g.dim ≡ dim
  pub grid : IsGrid depth g
  pub room : cells_of g ≤ MOST_CELLS
  pub kept : IsKept refined g.refined
  pub cell : IsCellOf g c

-- why a cell does not join some refined ones: no such grid has both, or memory was wanting
abbrev pub CellFails : Dim → ℕ → Cells → CellKey → LeavesFault → Type 0
CellFails dim depth refined c NotLeaves = (g : Spacetree) → IsGridWith dim depth refined c g → ⊥
CellFails dim depth refined c NoMemory = Unit {0}

-- some refined cells with those above one more
pub record IsJoined (dim : Dim) (depth : ℕ) (old : Cells) (c : CellKey) (new : Cells) : Type 0 where
  pub grid : IsGrid depth (grid_with dim new)
  pub kept : IsKept old new
  pub there : has_cell (grid_with dim new) c ≡ true
  pub room : cells_for dim (set.len new) ≤ MOST_CELLS
  pub least : (g : Spacetree) → IsGridWith dim depth old c g → IsKept new g.refined

-- the cells above those of a list: a grid has them all, and each one whose leaves the list is has these
pub record AreAbove (dim : Dim) (depth : ℕ) (leaves : List CellKey) (refined : Cells) : Type 0 where
  pub grid : IsGrid depth (grid_with dim refined)
  pub there : (c : CellKey) → is_among leaves c ≡ true → has_cell (grid_with dim refined) c ≡ true
  pub room : cells_for dim (set.len refined) ≤ MOST_CELLS
  pub least : (g : Spacetree) → IsGridOf dim depth leaves g → IsKept refined g.refined
