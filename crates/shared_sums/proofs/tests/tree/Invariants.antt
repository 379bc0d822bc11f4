use Rattle.std.proofs.Common.{◌≡◌, length}
use Rattle.shared_sums.proofs.tests.tree.Given as goal

abbrev pub invariant-loop-row : goal.invariant-loop-row
invariant-loop-row l = length l.partials ≡ l.row-index
