-- Partials whose sums are tested one by one.
use Rattle.std.proofs.Common.{ℕ, zero, suc, ◌*◌, ◌<◌, ◌≤◌, arith}
use Rattle.std.specs.Int.RustNames.{unsigned_abs}
use Rattle.peano_keys.specs.declared.dim.Dim.{Dim}
use Rattle.peano_keys.specs.Cell.{IsCell}
use Rattle.peano_curve.proofs.Ranks.{width_positive}
use Rattle.peano_keys.specs.Sums.{cell_weight}
use Rattle.peano_records.specs.declared.partials.Partial.{Partial}
use Rattle.shared_sums.specs.Totals.{sum_at, IsPartial}

weighed : (w n : ℕ) → 0 < w → n ≤ 9223372036854775808 → n ≤ 9223372036854775808 * w
weighed w n p h = omega arith

-- four small sums make a partial
pub four_small : (depth : ℕ) (dim : Dim) (p : Partial) → IsCell dim p.key → p.key.level ≤ depth → unsigned_abs (sum_at 0 p) ≤ 9223372036854775808 → unsigned_abs (sum_at 1 p) ≤ 9223372036854775808 → unsigned_abs (sum_at 2 p) ≤ 9223372036854775808 → unsigned_abs (sum_at 3 p) ≤ 9223372036854775808 → IsPartial depth dim p
four_small depth dim p cell level a b c d = record { cell = cell; level = level; sums = each }
  where
    each : (i : ℕ) → i < 4 → unsigned_abs (sum_at i p) ≤ 9223372036854775808 * cell_weight depth dim p.key
    each zero h = weighed (cell_weight depth dim p.key) (unsigned_abs (sum_at 0 p)) (width_positive dim _) a
    each (suc zero) h = weighed (cell_weight depth dim p.key) (unsigned_abs (sum_at 1 p)) (width_positive dim _) b
    each (suc (suc zero)) h = weighed (cell_weight depth dim p.key) (unsigned_abs (sum_at 2 p)) (width_positive dim _) c
    each (suc (suc (suc zero))) h = weighed (cell_weight depth dim p.key) (unsigned_abs (sum_at 3 p)) (width_positive dim _) d
    each (suc (suc (suc (suc i)))) h = absurd (omega (arith, h))
