use Rattle.std.proofs.Common.{arith}
use Rattle.shared_sums.proofs.Small.{four_small}
use Rattle.shared_sums.proofs.tests.is_partial.Goals as goal

pub returns : goal.returns
returns c = λ yes.
    four_small c.args.depth c.args.dim c.args.partial.now (c.is_cell.ensures.0 c.if-not-is_cell.false) (omega arith)
    (c.is_small_at.ensures c.if-not-is_small_at.false)
    (c.is_small_at-else-not-is_small_at.ensures c.if-not-is_small_at-2.false)
    (c.is_small_at-2.ensures c.if-not-is_small_at-3.false)
    (c.is_small_at-else-not-is_small_at-3.ensures c.if-not-is_small_at-4.false)
