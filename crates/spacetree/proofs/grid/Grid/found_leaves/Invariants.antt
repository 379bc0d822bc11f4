use Rattle.std.proofs.Common.{◌≡◌, true, ◌<◌, take}
use Rattle.std.specs.FinSet as set
use Rattle.peano_keys.specs.declared.cell.CellKey.{CellKey}
use Rattle.peano_keys.specs.Cell.{parent_of, root}
use Rattle.solver_api.specs.Step.{IsLeafOf}
use Rattle.spacetree.specs.Leaves.{is_among}
use Rattle.spacetree.specs.Digits.{HasLeavesOf}
use Rattle.spacetree.proofs.grid.Grid.found_leaves.Given as goal

abbrev pub invariant-loop-parent : goal.invariant-loop-parent
invariant-loop-parent l = record {
  within : HasLeavesOf l.self l.found;
  root : IsLeafOf l.self root → set.contains l.found root ≡ true;
  below : (q : CellKey) → IsLeafOf l.self q → 0 < q.level → is_among (take l.parent-index l.parent-items) (parent_of q) ≡ true → set.contains l.found q ≡ true;
}
