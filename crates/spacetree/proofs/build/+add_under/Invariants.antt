use Rattle.std.proofs.Common.{◌-◌, ◌≡◌, ◌<◌, ◌≤◌, true}
use Rattle.std.specs.FinSet as set
use Rattle.peano_keys.specs.declared.cell.CellKey.{CellKey}
use Rattle.peano_keys.specs.Cell.{IsCell, parent_of}
use Rattle.spacetree.specs.Counts.{cells_for}
use Rattle.spacetree.specs.Digits.{IsKept, number_in}
use Rattle.spacetree.specs.Build.{HasOpened, HasOpenedUnder}
use Rattle.spacetree.proofs.build.+add_under.Given as goal

abbrev pub decreases-add_under : goal.decreases-add_under
decreases-add_under l = l.shape.now.depth - l.key.level

abbrev pub invariant-loop-n : goal.invariant-loop-n
invariant-loop-n l = record {
  within : HasOpened l.shape l.cells;
  kept : IsKept l.fn.cells l.cells;
  top : set.contains l.cells l.key ≡ true;
  children : (r : CellKey) → IsCell l.shape.dim r → 0 < r.level → parent_of r ≡ l.key → number_in l.shape.dim r < l.n → HasOpenedUnder l.shape r l.cells;
  fits : cells_for l.shape.dim (set.len l.cells) ≤ 200000;
}
