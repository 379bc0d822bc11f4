use Rattle.adapt_sweep.proofs.Corners.{AdaptedBelow}
use Rattle.adapt_sweep.proofs.adapting.adapt_view.Given as goal

abbrev pub invariant-loop-n : goal.invariant-loop-n
invariant-loop-n l = AdaptedBelow l.dim l.status l.value l.n l.fn.cell l.cell
