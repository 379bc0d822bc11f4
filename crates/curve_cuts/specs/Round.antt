-- Cells that have all cells round a vertex in them, or all cells round a cell.
use Rattle.std.specs.Prelude.{◌≡◌, ℕ, ◌+◌, ◌<◌, ◌≤◌, ◌%◌}
use Rattle.peano_keys.specs.declared.dim.Dim.{Dim}
use Rattle.peano_keys.specs.declared.dim.Dim.TheVariants.{Two, Three}
use Rattle.peano_keys.specs.declared.cell.CellKey.{CellKey}
use Rattle.peano_keys.specs.declared.vertex.VertexKey.{VertexKey}
use Rattle.peano_keys.specs.Dim.{corners}
use Rattle.peano_keys.specs.Cell.{IsCell, at}
use Rattle.peano_keys.specs.Vertex.{Touches, corner_of}
use Rattle.peano_curve.specs.declared.range.Range.{Range}
use Rattle.peano_curve.specs.Laws.{IsIn}
use Rattle.curve_cuts.specs.Cuts.{Cuts, IsShared}

-- all cells of a vertex's level round it lie in a cell
abbrev pub Surrounds : Dim → CellKey → VertexKey → Type 0
Surrounds dim around v = (q : CellKey) → IsCell dim q → Touches q v → IsIn around q

-- so they do round each corner of a cell
abbrev pub SurroundsCell : Dim → CellKey → CellKey → Type 0
SurroundsCell dim around c = (n : ℕ) → n < corners dim → Surrounds dim around (corner_of c n)

-- a coordinate is neither the first nor the last one of a part of so many
abbrev pub IsBetween : ℕ → ℕ → Type 0
IsBetween span x = (0 < x % span) × (x % span + 1 < span)

-- so is the third one; a plane has none
abbrev pub IsThirdBetween : Dim → ℕ → ℕ → Type 0
IsThirdBetween Two span z = Unit {0}
IsThirdBetween Three span z = IsBetween span z

-- the coordinates of a cell are such, on each axis
pub record LiesInside (dim : Dim) (span : ℕ) (c : CellKey) : Type 0 where
  pub first : IsBetween span (at c 0)
  pub second : IsBetween span (at c 1)
  pub third : IsThirdBetween dim span (at c 2)

-- a range is a part of another one
pub record IsPartOf (part whole : Range) : Type 0 where
  pub low : whole.lo ≤ part.lo
  pub high : part.hi ≤ whole.hi

-- no other tree holds a cell round a corner of a cell
abbrev pub SharesNoCorner : Cuts → ℕ → CellKey → Type 0
SharesNoCorner k t c = (n : ℕ) → n < corners k.dim → ¬ IsShared k t (corner_of c n)
