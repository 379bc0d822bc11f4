-- Sums over lists of leaves.
use Rattle.std.specs.Prelude.{◌≡◌, ◌↔◌, ℕ, ◌-◌, ◌≤◌, ℤ, pos, ◌+ℤ◌, ◌*ℤ◌, true, List, [], ◌∷◌}
use Rattle.peano_keys.specs.declared.cell.CellKey.{CellKey}
use Rattle.peano_keys.specs.Cell.{IsCell}
use Rattle.peano_keys.specs.Grid.{Spacetree, IsGrid, has_cell}
use Rattle.solver_api.specs.Step.{IsLeafOf}
use Rattle.spacetree.specs.Build.{IsUnder}
use Rattle.spacetree.specs.Counts.{EachOnce}
use Rattle.spacetree.specs.Leaves.{is_among}
use Rattle.peano_keys.specs.Sums.{cell_weight, leaf_sum}

-- the sum of numbers of cells over a list
abbrev pub list_sum : (CellKey → ℤ) → List CellKey → ℤ
list_sum f [] = pos 0
list_sum f (c ∷ cs) = f c +ℤ list_sum f cs

-- the leaves of a grid that are a cell or lie below it, each once
pub record ListsLeavesUnder (t : Spacetree) (top : CellKey) (cells : List CellKey) : Type 0 where
  pub once : EachOnce cells
  pub members : (c : CellKey) → (is_among cells c ≡ true) ↔ (IsLeafOf t c × IsUnder top c)

-- the sum by recursion over children is that over any such list
abbrev pub LeavesMakeSum : Type 0
LeavesMakeSum = (depth : ℕ) (t : Spacetree) (x : CellKey → ℤ) (c : CellKey)
    (cells : List CellKey)
    → depth ≤ 12 → IsGrid depth t → IsCell t.dim c → has_cell t c ≡ true → c.level ≤ depth
    → ListsLeavesUnder t c cells
    → leaf_sum t x (depth - c.level) c
    ≡ list_sum (λ q. x q *ℤ pos (cell_weight depth t.dim q)) cells
