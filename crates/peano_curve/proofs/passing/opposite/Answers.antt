use Rattle.peano_curve.proofs.Sides.{span_round}
use Rattle.peano_curve.proofs.passing.opposite.Goals as goal

pub returns-clause-all : goal.returns-clause-all
returns-clause-all c = span_round c.args.dim c.args.vertex c.args.cell c.across.result c.across-2.result c.across-3.result c.extent-end.result c.third_end-third.result c.requires.touches.level c.extent-end.ensures.value c.third_end-third.ensures c.across.ensures.both c.across-2.ensures.both c.across-3.ensures.both
