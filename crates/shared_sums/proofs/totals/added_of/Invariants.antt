use Rattle.std.proofs.Common.{◌≡◌, ◌*◌, ◌≤◌, drop}
use Rattle.std.specs.Prelude.{◌+ℤ◌}
use Rattle.std.specs.Int.RustNames.{unsigned_abs}
use Rattle.mean_values.specs.Lists.{list_sum}
use Rattle.tree_sums.specs.Totals.{added_by}
use Rattle.shared_sums.specs.Totals.{total_in, merging_of}
use Rattle.shared_sums.proofs.totals.added_of.Given as goal

abbrev pub invariant-loop-partial : goal.invariant-loop-partial
invariant-loop-partial l = record {
  sum : l.sum +ℤ list_sum (added_by l.depth l.dim (total_in l.all l.i) l.key) (merging_of (drop l.partial-index l.partials)) ≡ list_sum (added_by l.depth l.dim (total_in l.all l.i) l.key) (merging_of l.partials);
  bound : unsigned_abs l.sum ≤ l.partial-index * 150094635296999121;
}
