use Rattle.std.proofs.Common.{◌≡◌, true, ◌<◌}
use Rattle.std.specs.FinSet as set
use Rattle.peano_keys.specs.declared.cell.CellKey.{CellKey}
use Rattle.peano_keys.specs.Cell.{parent_of}
use Rattle.solver_api.specs.Step.{IsLeafOf}
use Rattle.spacetree.specs.Digits.{HasLeavesOf, IsKept, number_in}
use Rattle.spacetree.proofs.grid.Grid.add_leaves.Given as goal

abbrev pub invariant-loop-n : goal.invariant-loop-n
invariant-loop-n l = record {
  within : HasLeavesOf l.self l.found;
  kept : IsKept l.fn.found l.found;
  children : (q : CellKey) → IsLeafOf l.self q → 0 < q.level → parent_of q ≡ l.parent → number_in l.self.dim q < l.n → set.contains l.found q ≡ true;
}
