use Rattle.std.proofs.Common.{arith}
use Rattle.peano_curve.proofs.Ranks.{interval_within, children_pow_12}
use Rattle.peano_keys.specs.Dim.{children}
use Rattle.peano_curve.proofs.order.interval.Goals as goal

pub overflow_mul-lo : goal.overflow_mul-lo
overflow_mul-lo c =
    let inside = interval_within (children c.args.dim) c.rank.result c.args.cell.level c.args.depth c.requires.above c.rank.ensures.below in
    let most = children_pow_12 c.args.dim c.args.depth c.requires.depth in
    grind (arith, inside, most, c.width-width.ensures.value)

pub overflow_add-result : goal.overflow_add-result
overflow_add-result c =
    let inside = interval_within (children c.args.dim) c.rank.result c.args.cell.level c.args.depth c.requires.above c.rank.ensures.below in
    let most = children_pow_12 c.args.dim c.args.depth c.requires.depth in
    grind (arith, inside, most, c.width-width.ensures.value)

pub returns-clause-within : goal.returns-clause-within
returns-clause-within c =
    let inside = interval_within (children c.args.dim) c.rank.result c.args.cell.level c.args.depth c.requires.above c.rank.ensures.below in
    grind (arith, inside, c.width-width.ensures.value)
