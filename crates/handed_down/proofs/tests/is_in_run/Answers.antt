use Rattle.std.proofs.Common.{subst}
use Rattle.peano_curve.specs.declared.range.Range.{Range}
use Rattle.peano_curve.specs.Run.{Meets}
use Rattle.handed_down.proofs.Inside.{at_corner}
use Rattle.handed_down.proofs.tests.is_in_run.Goals as goal

pub returns : goal.returns
returns c = λ t. record { cell = c.requires.cell; touches = at_corner c.args.cell c.args.asked.now.n; held = subst (λ (i : Range). Meets i c.args.asked.now.range) c.interval.ensures.value (c.meets.ensures.0 t) }
