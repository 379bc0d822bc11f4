use Rattle.std.proofs.Common.{arith, ap}
use Rattle.peano_curve.proofs.Ranks.{rank_below}
use Rattle.peano_keys.specs.Dim.{children}
use Rattle.peano_curve.proofs.order.+rank.Goals as goal

pub returns-else-key-eq0-clause-below : goal.returns-else-key-eq0-clause-below
returns-else-key-eq0-clause-below t c =
    let level_is = ap (λ k. k.level) c.parent.ensures.value in
    let h = rank_below (children c.args.dim) c.rank.result c.place.result c.args.key.level (omega arith) (grind (arith, level_is, c.rank.ensures.below)) c.place.ensures.below in
    grind (arith, h, c.from.ensures)
