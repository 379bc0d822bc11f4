-- Cells at the corners of a box: which comes next after one of them, and on which axis it lies.
use Rattle.std.specs.Prelude.{◌≡◌, ◌≢◌, ◌⊎◌, ℕ, zero, suc, ◌+◌, ◌/◌, ◌%◌, ◌≤◌, Option, Some, None}
use Rattle.peano_keys.specs.declared.cell.CellKey.{CellKey}
use Rattle.peano_keys.specs.declared.vertex.VertexKey.{VertexKey}
use Rattle.peano_keys.specs.declared.dim.Dim.{Dim}
use Rattle.peano_keys.specs.Cell.{IsCell, at}
use Rattle.peano_keys.specs.Vertex.{Touches}
use Rattle.peano_curve.specs.declared.order.Direction.{Direction}
use Rattle.peano_curve.specs.declared.order.Direction.TheVariants.{Forward, Backward}
use Rattle.stack_law.specs.Digits.{turned}
use Rattle.peano_curve.specs.Order.{rank_of}
use Rattle.peano_curve.specs.Run.{Later, CellLater}

-- a number is not later than another along a direction
abbrev pub UpTo : Direction → ℕ → ℕ → Type 0
UpTo Forward a b = a ≤ b
UpTo Backward a b = b ≤ a

-- a coordinate is one of two
abbrev pub Among : ℕ → ℕ → ℕ → Type 0
Among x y t = (t ≡ x) ⊎ (t ≡ y)

-- two coordinates are the same, or next to each other
pub record IsBeside (x y : ℕ) : Type 0 where
  pub low : x ≤ y + 1
  pub high : y ≤ x + 1

-- cells of one level whose coordinates are the same, or next to each other
pub record AreBeside (c d : CellKey) : Type 0 where
  pub level : c.level ≡ d.level
  pub first : IsBeside (at c 0) (at d 0)
  pub second : IsBeside (at c 1) (at d 1)
  pub third : IsBeside (at c 2) (at d 2)

-- of the places whose coordinates are x or y, none is later than x
pub record NoneLater (dir : Direction) (rank : ℕ → ℕ → ℕ → ℕ) (x0 x1 x2 y0 y1 y2 : ℕ) : Type 0 where
  pub none : (t0 t1 t2 : ℕ) → Among x0 y0 t0 → Among x1 y1 t1 → Among x2 y2 t2
      → UpTo dir (rank t0 t1 t2) (rank x0 x1 x2)

-- of the places whose coordinates are x or y, the place n is the next after x
pub record NextIs (dir : Direction) (rank : ℕ → ℕ → ℕ → ℕ)
    (x0 x1 x2 y0 y1 y2 n0 n1 n2 : ℕ) : Type 0 where
  pub later : Later dir (rank x0 x1 x2) (rank n0 n1 n2)
  pub nearest : (t0 t1 t2 : ℕ) → Among x0 y0 t0 → Among x1 y1 t1 → Among x2 y2 t2
      → UpTo dir (rank t0 t1 t2) (rank x0 x1 x2) ⊎ UpTo dir (rank n0 n1 n2) (rank t0 t1 t2)

-- the axis on which the next place after x lies, where there is one: there it has the coordinate of y, and that of x on the others
abbrev pub TurnsOn : Direction → (ℕ → ℕ → ℕ → ℕ) → ℕ → ℕ → ℕ → ℕ → ℕ → ℕ → Option ℕ → Type 0
TurnsOn dir rank x0 x1 x2 y0 y1 y2 None = NoneLater dir rank x0 x1 x2 y0 y1 y2
TurnsOn dir rank x0 x1 x2 y0 y1 y2 (Some zero) = (x0 ≢ y0)
    × NextIs dir rank x0 x1 x2 y0 y1 y2 y0 x1 x2
TurnsOn dir rank x0 x1 x2 y0 y1 y2 (Some (suc zero)) = (x1 ≢ y1)
    × NextIs dir rank x0 x1 x2 y0 y1 y2 x0 y1 x2
TurnsOn dir rank x0 x1 x2 y0 y1 y2 (Some (suc (suc zero))) = (x2 ≢ y2)
    × NextIs dir rank x0 x1 x2 y0 y1 y2 x0 x1 y2
TurnsOn dir rank x0 x1 x2 y0 y1 y2 (Some (suc (suc (suc i)))) = ⊥

-- inside one parent, y is later than x on an axis where the other coordinates have this sum
abbrev pub Crosses : Direction → ℕ → ℕ → ℕ → Type 0
Crosses dir s x y = (x / 3 ≡ y / 3) × Later dir (turned s (x % 3)) (turned s (y % 3))

-- of all cells round a vertex, none is later than this one
abbrev pub NoneLaterRound : Direction → Dim → VertexKey → CellKey → Type 0
NoneLaterRound dir dim v c = (q : CellKey) → IsCell dim q → Touches q v
    → UpTo dir (rank_of dim q) (rank_of dim c)

-- of all cells round a vertex, n is the next after this one
pub record NextRound (dir : Direction) (dim : Dim) (v : VertexKey) (c n : CellKey) : Type 0 where
  pub cell : IsCell dim n
  pub touches : Touches n v
  pub later : CellLater dir dim c n
  pub nearest : (q : CellKey) → IsCell dim q → Touches q v
      → UpTo dir (rank_of dim q) (rank_of dim c) ⊎ UpTo dir (rank_of dim n) (rank_of dim q)

-- each cell round a vertex has the coordinates of c or of d
abbrev pub SpanRound : Dim → VertexKey → CellKey → CellKey → Type 0
SpanRound dim v c d = (q : CellKey) → IsCell dim q → Touches q v
    → Among (at c 0) (at d 0) (at q 0) × Among (at c 1) (at d 1) (at q 1)
    × Among (at c 2) (at d 2) (at q 2)
