-- Laws of sums over children, of weights, and of means under other depths.
use Rattle.std.specs.Prelude.{◌≡◌, ℕ, ◌+◌, ◌-◌, ◌*◌, ◌^◌, ◌<◌, ◌≤◌, ℤ}
use Rattle.peano_keys.specs.declared.dim.Dim.{Dim}
use Rattle.peano_keys.specs.declared.cell.CellKey.{CellKey}
use Rattle.peano_keys.specs.Dim.{axes, children}
use Rattle.peano_keys.specs.Cell.{child_of}
use Rattle.peano_keys.specs.State.{count_of, value_at}
use Rattle.peano_keys.specs.Grid.{Spacetree, IsGrid}
use Rattle.cell_sums.specs.Digits.{digits_at}
use Rattle.peano_keys.specs.Sums.{over_children, over_first, weight, mean_of}
use Rattle.peano_keys.specs.Field.{States, component_of, mean_under, value_of}

-- the sum over the children of a cell by number is that over their digits
abbrev pub NumbersSumChildren : Type 0
NumbersSumChildren = (dim : Dim) (c : CellKey) (f : CellKey → ℤ)
    → over_first (children dim) (λ n. f (child_of c (digits_at dim n)))
    ≡ over_children dim (λ k. f (child_of c k))

-- a weight is three to the number of axes times the levels
abbrev pub WeightIsPower : Type 0
WeightIsPower = (dim : Dim) (levels : ℕ) → weight dim levels ≡ 3 ^ (axes dim * levels)

-- a mean does not depend on the depth by which leaves are weighed
abbrev pub MeanByAnyDepth : Type 0
MeanByAnyDepth = (depth more : ℕ) (t : Spacetree) (x : CellKey → ℤ) (c : CellKey)
    → IsGrid depth t → c.level ≤ depth
    → mean_of t x (depth + more - c.level) c ≡ mean_of t x (depth - c.level) c

-- so the value of a cell is the same under the depth of its grid
abbrev pub ValueByAnyDepth : Type 0
ValueByAnyDepth = (depth : ℕ) (t : Spacetree) (f : States) (c : CellKey)
    → depth ≤ 12 → IsGrid depth t → c.level ≤ depth → value_of t f c ≡ mean_under depth t f c

-- each component of a value is the mean of that component
abbrev pub ComponentsAreMeans : Type 0
ComponentsAreMeans = (depth : ℕ) (t : Spacetree) (f : States) (c : CellKey) (i : ℕ)
    → depth ≤ 12 → IsGrid depth t → c.level ≤ depth → i < count_of (value_of t f c)
    → value_at (value_of t f c) i ≡ mean_of t (component_of f i) (depth - c.level) c
