use Rattle.std.proofs.Common.{◌≡◌, ◌*◌, ◌≤◌, drop}
use Rattle.std.specs.Prelude.{◌+ℤ◌}
use Rattle.std.specs.Int.RustNames.{unsigned_abs}
use Rattle.mean_values.specs.Lists.{list_sum}
use Rattle.tree_sums.specs.Totals.{added_by}
use Rattle.shared_sums.specs.Totals.{total_in, merging_in}
use Rattle.shared_sums.proofs.totals.added_in.Given as goal

abbrev pub invariant-loop-partials : goal.invariant-loop-partials
invariant-loop-partials l = record {
  sum : l.sum +ℤ list_sum (added_by l.depth l.dim (total_in l.all l.i) l.key) (merging_in (drop l.partials-index l.all)) ≡ list_sum (added_by l.depth l.dim (total_in l.all l.i) l.key) (merging_in l.all);
  bound : unsigned_abs l.sum ≤ l.partials-index * (24 * 150094635296999121);
}
