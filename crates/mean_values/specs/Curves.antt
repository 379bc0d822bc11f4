-- Sums over the children of a cell along the curve.
use Rattle.std.specs.Prelude.{◌≡◌, ℤ}
use Rattle.peano_keys.specs.declared.dim.Dim.{Dim}
use Rattle.peano_keys.specs.declared.cell.CellKey.{CellKey}
use Rattle.peano_keys.specs.Dim.{children}
use Rattle.peano_keys.specs.Cell.{child_of}
use Rattle.peano_keys.specs.Sums.{over_children, over_first}
use Rattle.peano_curve.specs.declared.order.Direction.{Direction}
use Rattle.peano_curve.specs.Order.{child_along}

-- the sum over the children of a cell along the curve, either way, is that over all children
abbrev pub CurveSumsChildren : Type 0
CurveSumsChildren = (dir : Direction) (dim : Dim) (c : CellKey) (f : CellKey → ℤ)
    → over_first (children dim) (λ p. f (child_along dir dim c p))
    ≡ over_children dim (λ k. f (child_of c k))
