use Rattle.std.proofs.Common.{◌≡◌, ◌*◌, ◌≤◌, drop}
use Rattle.std.specs.Prelude.{◌+ℤ◌}
use Rattle.std.specs.Int.RustNames.{unsigned_abs}
use Rattle.shared_sums.specs.Totals.{total_in}
use Rattle.shared_sums.specs.Bounds.{most_of_one}
use Rattle.shared_sums.proofs.totals.total_in.Given as goal

abbrev pub invariant-loop-partials : goal.invariant-loop-partials
invariant-loop-partials l = record {
  sum : l.total +ℤ total_in (drop l.partials-index l.all) l.i l.key ≡ total_in l.all l.i l.key;
  bound : unsigned_abs l.total ≤ l.partials-index * most_of_one;
}
