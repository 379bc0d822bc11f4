use Rattle.std.proofs.Common.{◌≡◌, ◌-◌, ◌*◌}
use Rattle.peano_keys.specs.Sums.{weight}
use Rattle.spacetree.specs.Means.{AreSums}
use Rattle.spacetree.proofs.Totals.{first_sums}
use Rattle.spacetree.proofs.means.+sums.Given as goal

abbrev pub decreases-sums : goal.decreases-sums
decreases-sums l = 12 - l.key.level

abbrev pub invariant-loop-n : goal.invariant-loop-n
invariant-loop-n l = record {
  value : l.total ≡ first_sums l.grid l.field (11 - l.key.level) l.key l.n;
  sums : AreSums (l.n * weight l.grid.dim (11 - l.key.level)) l.total;
}
