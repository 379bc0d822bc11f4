use Rattle.std.proofs.Common.{◌≡◌, true, ◌<◌}
use Rattle.std.specs.FinSet as set
use Rattle.peano_keys.specs.declared.cell.CellKey.{CellKey}
use Rattle.peano_keys.specs.Cell.{IsCell, parent_of}
use Rattle.spacetree.specs.Digits.{number_in}
use Rattle.spacetree.proofs.next_grid.has_children.Given as goal

abbrev pub invariant-loop-n : goal.invariant-loop-n
invariant-loop-n l = (q : CellKey) → IsCell l.dim q → 0 < q.level → parent_of q ≡ l.key → number_in l.dim q < l.n → set.contains l.cells q ≡ true
