-- The children of a cell by number, and sets of leaves.
use Rattle.std.specs.Prelude.{◌≡◌, ◌<◌, true}
use Rattle.std.specs.FinSet as set
use Rattle.peano_keys.specs.declared.cell.CellKey.{CellKey}
use Rattle.peano_keys.specs.Cell.{parent_of}
use Rattle.peano_keys.specs.Grid.{Cells, Spacetree}
use Rattle.solver_api.specs.Step.{IsLeafOf}
pub use Rattle.cell_sums.specs.Digits.{digits_at, number_in}

-- a set keeps the cells of another
abbrev pub IsKept : Cells → Cells → Type 0
IsKept old new = (c : CellKey) → set.contains old c ≡ true → set.contains new c ≡ true

-- a set has leaves of a grid alone
abbrev pub HasLeavesOf : Spacetree → Cells → Type 0
HasLeavesOf t s = (c : CellKey) → set.contains s c ≡ true → IsLeafOf t c

-- a set has each leaf of a grid whose parent a cell is
abbrev pub HasLeavesUnder : Spacetree → Cells → CellKey → Type 0
HasLeavesUnder t s p = (c : CellKey) → IsLeafOf t c → 0 < c.level → parent_of c ≡ p
    → set.contains s c ≡ true
