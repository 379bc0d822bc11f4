-- Lists of cells that tile the domain along the curve.
use Rattle.std.specs.Prelude.{◌≡◌, ℕ, zero, suc, ◌^◌, ◌<◌, ◌≤◌, List, length, slice_index_or}
use Rattle.peano_keys.specs.declared.dim.Dim.{Dim}
use Rattle.peano_keys.specs.declared.cell.CellKey.{CellKey}
use Rattle.peano_keys.specs.Dim.{children}
use Rattle.peano_keys.specs.Cell.{IsCell, root}
use Rattle.peano_curve.specs.Order.{interval_start, interval_of}
use Rattle.curve_cuts.specs.Leaves.{InCurveOrder}

-- cell number `i` of a list
abbrev pub cell_in : List CellKey → ℕ → CellKey
cell_in cells i = slice_index_or cells i root

-- where the first `i` cells of a list end
abbrev pub end_of : Dim → ℕ → List CellKey → ℕ → ℕ
end_of dim depth cells zero = 0
end_of dim depth cells (suc i) = (interval_of dim (cell_in cells i) depth).hi

-- a cell of a level down to the depth begins at a position
pub record BeginsAt (dim : Dim) (depth : ℕ) (c : CellKey) (position : ℕ) : Type 0 where
  pub cell : IsCell dim c
  pub level : c.level ≤ depth
  pub start : interval_start dim c depth ≡ position

-- cells tile the domain along the curve: each begins where those before it end, and the last ends with all positions
pub record Tile (dim : Dim) (depth : ℕ) (cells : List CellKey) : Type 0 where
  pub each : (i : ℕ) → i < length cells
      → BeginsAt dim depth (cell_in cells i) (end_of dim depth cells i)
  pub end : end_of dim depth cells (length cells) ≡ children dim ^ depth

-- cells that tile the domain are the leaves of a grid in the order of the curve
abbrev pub TilesAreLeaves : Type 0
TilesAreLeaves = (dim : Dim) (depth : ℕ) (cells : List CellKey) → depth ≤ 12 → Tile dim depth cells
    → InCurveOrder dim depth cells
