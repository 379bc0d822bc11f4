-- The leaves of a grid by the positions where they begin.
use Rattle.std.specs.Prelude.{◌≡◌, ℕ, ◌<◌, List, Some, IfSome, slice_index_or}
use Rattle.std.specs.BTreeMap as tree
use Rattle.std.specs.BTreeMap.{BTreeMap}
use Rattle.std.specs.Ordering.{nat_cmp}
use Rattle.peano_keys.specs.declared.cell.CellKey.{CellKey}
use Rattle.peano_keys.specs.Cell.{root}
use Rattle.peano_keys.specs.Grid.{Spacetree}
use Rattle.peano_curve.specs.Order.{interval_start}
use Rattle.solver_api.specs.Step.{IsLeafOf}

-- what stands at a position is a leaf that begins there
abbrev pub LeavesBegin : ℕ → Spacetree → BTreeMap ℕ CellKey → Type 0
LeavesBegin depth g starts = (p : ℕ)
    → IfSome (tree.get nat_cmp starts p) (λ c. IsLeafOf g c × (interval_start g.dim c depth ≡ p))

-- a cell stands where it begins
abbrev pub StandsIn : ℕ → Spacetree → BTreeMap ℕ CellKey → CellKey → Type 0
StandsIn depth g starts c = tree.get nat_cmp starts (interval_start g.dim c depth) ≡ Some c

-- the first cells of a list stand where they begin, and nothing but leaves does
pub record HasFirst (depth : ℕ) (g : Spacetree) (leaves : List CellKey) (count : ℕ)
    (starts : BTreeMap ℕ CellKey) : Type 0 where
  pub only : LeavesBegin depth g starts
  pub first : (i : ℕ) → i < count → StandsIn depth g starts (slice_index_or leaves i root)

-- all leaves of a grid stand where they begin
pub record HasLeavesAlong (depth : ℕ) (g : Spacetree) (starts : BTreeMap ℕ CellKey) : Type 0 where
  pub only : LeavesBegin depth g starts
  pub all : (c : CellKey) → IsLeafOf g c → StandsIn depth g starts c
