-- Ranges of positions, the run of a vertex in a range, and the lane of a passing.
use Rattle.std.specs.Prelude.{◌≡◌, ℕ, ◌+◌, ◌*◌, ◌%◌, ◌<◌, ◌≤◌, Bool, Some}
use Rattle.peano_keys.specs.declared.cell.CellKey.{CellKey}
use Rattle.peano_keys.specs.declared.vertex.VertexKey.{VertexKey}
use Rattle.peano_keys.specs.declared.dim.Dim.{Dim}
use Rattle.peano_keys.specs.Dim.{axes}
use Rattle.peano_keys.specs.Cell.{IsCell, neighbour_of}
use Rattle.peano_keys.specs.Vertex.{Touches, plane}
use Rattle.peano_keys.specs.Field.{face_on}
use Rattle.peano_curve.specs.declared.order.Direction.{Direction}
use Rattle.peano_curve.specs.declared.order.Direction.TheVariants.{Forward, Backward}
use Rattle.peano_curve.specs.declared.range.Range.{Range}
use Rattle.peano_curve.specs.Order.{rank_of, interval_of}

-- a position is in a range
abbrev pub Holds : Range → ℕ → Type 0
Holds r k = (r.lo ≤ k) × (k < r.hi)

-- two ranges share a position
abbrev pub Meets : Range → Range → Type 0
Meets r s = (k : ℕ) × Holds r k × Holds s k

-- a range holds a cell whose interval meets it
abbrev pub HoldsCell : Dim → ℕ → Range → CellKey → Type 0
HoldsCell dim depth r c = Meets (interval_of dim c depth) r

-- a number comes later than another along a direction
abbrev pub Later : Direction → ℕ → ℕ → Type 0
Later Forward a b = a < b
Later Backward a b = b < a

-- a cell of one level comes later than another along a direction
abbrev pub CellLater : Direction → Dim → CellKey → CellKey → Type 0
CellLater dir dim a b = Later dir (rank_of dim a) (rank_of dim b)

-- the run of a vertex in a range: the cells of the vertex's level that touch it and are held
pub record InRun (dim : Dim) (v : VertexKey) (r : Range) (depth : ℕ) (c : CellKey) : Type 0 where
  pub cell : IsCell dim c
  pub touches : Touches c v
  pub held : HoldsCell dim depth r c

-- a cell of the run comes right after another: later, and none of the run between
pub record Follows (dir : Direction) (dim : Dim) (v : VertexKey) (r : Range) (depth : ℕ)
    (c next : CellKey) : Type 0 where
  pub before : InRun dim v r depth c
  pub after : InRun dim v r depth next
  pub later : CellLater dir dim c next
  pub none_between : (q : CellKey) → InRun dim v r depth q → CellLater dir dim c q
      → CellLater dir dim q next → ⊥

-- no cell of the run comes later
abbrev pub IsLast : Direction → Dim → VertexKey → Range → ℕ → CellKey → Type 0
IsLast dir dim v r depth c = (q : CellKey) → InRun dim v r depth q → ¬ CellLater dir dim c q

-- no cell of the run comes earlier
abbrev pub IsFirst : Direction → Dim → VertexKey → Range → ℕ → CellKey → Type 0
IsFirst dir dim v r depth c = (q : CellKey) → InRun dim v r depth q → ¬ CellLater dir dim q c

-- two cells differ on exactly this axis, by one
pub record DifferOn (dim : Dim) (axis : ℕ) (c n : CellKey) : Type 0 where
  pub in_use : axis < axes dim
  pub high : Bool
  pub across : neighbour_of c (face_on axis high) ≡ Some n

-- the lane of a vertex that passes between two cells across an axis
abbrev pub lane_from : VertexKey → ℕ → ℕ
lane_from v axis = 2 * axis + plane v axis % 2
