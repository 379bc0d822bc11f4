-- The leaves of a grid in the order of the curve.
use Rattle.std.specs.Prelude.{◌≡◌, ℕ, ◌<◌, true, List, All, Contains, length, slice_index_or}
use Rattle.peano_keys.specs.declared.dim.Dim.{Dim}
use Rattle.peano_keys.specs.declared.cell.CellKey.{CellKey}
use Rattle.peano_keys.specs.Cell.{IsCell}
use Rattle.peano_keys.specs.Grid.{Spacetree, IsGrid, is_leaf}
use Rattle.peano_curve.specs.Order.{interval_start}

-- cells begin one behind another along the curve
abbrev pub RiseAlong : Dim → ℕ → List CellKey → Type 0
RiseAlong dim depth cells = (i j : ℕ) (d : CellKey) → i < j → j < length cells
    → interval_start dim (slice_index_or cells i d) depth
    < interval_start dim (slice_index_or cells j d) depth

-- the leaves of a grid of a depth, each once, in the order of the curve
pub record AreLeaves (d : Dim) (depth : ℕ) (t : Spacetree) (leaves : List CellKey) : Type 0 where
  pub dim : t.dim ≡ d
  pub grid : IsGrid depth t
  pub only : All (λ c. IsCell d c × (is_leaf t c ≡ true)) leaves
  pub all : (c : CellKey) → IsCell d c → is_leaf t c ≡ true → Contains leaves c
  pub order : RiseAlong d depth leaves

-- the leaves of some grid
abbrev pub InCurveOrder : Dim → ℕ → List CellKey → Type 0
InCurveOrder dim depth leaves = (t : Spacetree) × AreLeaves dim depth t leaves
