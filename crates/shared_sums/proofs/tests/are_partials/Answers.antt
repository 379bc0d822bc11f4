use Rattle.std.proofs.Common.{◌<◌, length, arith, subst, ◌∙◌}
use Rattle.std.specs.Prelude.{All}
use Rattle.shared_sums.specs.Totals.{IsPartial}
use Rattle.shared_sums.proofs.Found.{all_more}
use Rattle.shared_sums.proofs.tests.are_partials.Goals as goal

pub loop-partials-preserved : goal.loop-partials-preserved
loop-partials-preserved c =
    let below : c.loop-partials.partials-index < length c.args.all.now = omega arith in
    all_more (All (IsPartial c.args.depth c.args.dim)) c.args.all.now c.loop-partials.partials-index c.partials-item.result below c.loop-partials.invariant
    (subst (All (IsPartial c.args.depth c.args.dim)) (c.as_slice.ensures.value ∙ c.partials-item.is) (c.have_partials.ensures c.if-not-have_partials.false))
