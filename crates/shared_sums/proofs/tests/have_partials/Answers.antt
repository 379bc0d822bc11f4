use Rattle.std.proofs.Common.{◌<◌, length, arith}
use Rattle.shared_sums.specs.Totals.{IsPartial}
use Rattle.shared_sums.proofs.Found.{all_more}
use Rattle.shared_sums.proofs.tests.have_partials.Goals as goal

pub loop-partial-preserved : goal.loop-partial-preserved
loop-partial-preserved c =
    let below : c.loop-partial.partial-index < length c.args.partials.now = omega arith in
    all_more (IsPartial c.args.depth c.args.dim) c.args.partials.now c.loop-partial.partial-index _ below c.loop-partial.invariant (c.is_partial.ensures c.if-not-is_partial.false)
