-- What a grid is built from, how the build descends, and why a grid is not built.
use Rattle.std.specs.Prelude.{◌≡◌, ℕ, zero, suc, ◌^◌, ◌<◌, ◌≤◌, true, All, Any, List, slice_index}
use Rattle.std.specs.FinSet as set
use Rattle.peano_keys.specs.declared.dim.Dim.{Dim}
use Rattle.peano_keys.specs.declared.dim.Dim.TheVariants.{Two, Three}
use Rattle.peano_keys.specs.declared.cell.CellKey.{CellKey}
use Rattle.peano_keys.specs.Cell.{parent_of}
use Rattle.peano_keys.specs.Grid.{Cells, Spacetree}
use Rattle.spacetree.specs.declared.limits.TheConstants.{MOST_CELLS}
use Rattle.spacetree.specs.declared.fault.BuildFault.{BuildFault}
use Rattle.spacetree.specs.declared.fault.BuildFault.TheVariants.{TooMany, NoMemory}
use Rattle.spacetree.specs.declared.shape.Shape.{Shape}
use Rattle.spacetree.specs.declared.shape.Zone.{Zone}
use Rattle.spacetree.specs.Counts.{cells_for, cells_of}
use Rattle.spacetree.specs.Opening.{Opens, OpensRefined, ZoneRefines}

-- from one cell to another, of so many on an axis: at least one cell
pub record IsSpan (extent from to : ℕ) : Type 0 where
  pub order : from < to
  pub end : to ≤ extent

-- so on axis 2, which a plane has none of
abbrev pub IsThirdSpan : Dim → ℕ → ℕ → ℕ → Type 0
IsThirdSpan Two extent from to = Unit {0}
IsThirdSpan Three extent from to = IsSpan extent from to

-- a zone for grids of a depth: a box of cells of a level up to the depth, refined down to a level from 1 to the depth
pub record IsZone (dim : Dim) (depth : ℕ) (z : Zone) : Type 0 where
  pub level : z.level ≤ depth
  pub first : IsSpan (3 ^ z.level) (slice_index z.from 0) (slice_index z.to 0)
  pub second : IsSpan (3 ^ z.level) (slice_index z.from 1) (slice_index z.to 1)
  pub third : IsThirdSpan dim (3 ^ z.level) (slice_index z.from 2) (slice_index z.to 2)
  pub least : 1 ≤ z.until
  pub most : z.until ≤ depth

-- a shape that a grid is built from: a depth up to 12, a base up to the depth, and zones for that depth
pub record IsShape (shape : Shape) : Type 0 where
  pub depth : shape.depth ≤ 12
  pub base : shape.base ≤ shape.depth
  pub zones : All (IsZone shape.dim shape.depth) shape.zones

-- a set has cells alone that are refined in the opening grid
abbrev pub HasOpened : Shape → Cells → Type 0
HasOpened shape s = (c : CellKey) → set.contains s c ≡ true → OpensRefined shape c

-- a set has each cell that is refined in the opening grid
abbrev pub HasAllOpened : Shape → Cells → Type 0
HasAllOpened shape s = (c : CellKey) → OpensRefined shape c → set.contains s c ≡ true

-- no grid of at most 200,000 cells is the opening grid
abbrev pub HasNoSmallGrid : Shape → Type 0
HasNoSmallGrid shape = (t : Spacetree) → Opens shape t → MOST_CELLS < cells_of t

-- the opening grid has more than 200,000 cells: so many come of some of its refined cells already
pub record IsTooLarge (shape : Shape) : Type 0 where
  pub refined : Cells
  pub opened : HasOpened shape refined
  pub many : MOST_CELLS < cells_for shape.dim (set.len refined)
  pub grids : HasNoSmallGrid shape

-- why a grid is not built: it would have more than 200,000 cells, or memory was wanting
abbrev pub BuildFails : Shape → BuildFault → Type 0
BuildFails shape TooMany = IsTooLarge shape
BuildFails shape NoMemory = Unit {0}

-- the ancestor of a cell so many levels above
abbrev pub ancestor_of : ℕ → CellKey → CellKey
ancestor_of zero c = c
ancestor_of (suc levels) c = parent_of (ancestor_of levels c)

-- a cell is another one or lies below it
abbrev pub IsUnder : CellKey → CellKey → Type 0
IsUnder top c = (levels : ℕ) × (levels ≤ c.level) × (ancestor_of levels c ≡ top)

-- a set has each cell that is refined in the opening grid and is a given one or lies below it
abbrev pub HasOpenedUnder : Shape → CellKey → Cells → Type 0
HasOpenedUnder shape top s = (c : CellKey) → OpensRefined shape c → IsUnder top c
    → set.contains s c ≡ true

-- some zones stand for all of a shape below a cell: they refine no other cell than these, and below the cell the same
pub record StandsFor (shape : Shape) (top : CellKey) (zones : List Zone) : Type 0 where
  pub valid : All (IsZone shape.dim shape.depth) zones
  pub within : (c : CellKey) → Any (ZoneRefines shape.dim c) zones
      → Any (ZoneRefines shape.dim c) shape.zones
  pub all : (c : CellKey) → IsUnder top c → Any (ZoneRefines shape.dim c) shape.zones
      → Any (ZoneRefines shape.dim c) zones
