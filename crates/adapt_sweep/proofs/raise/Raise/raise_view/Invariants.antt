use Rattle.adapt_sweep.specs.Raises.{source_of}
use Rattle.adapt_sweep.proofs.Corners.{RaisedBelow}
use Rattle.adapt_sweep.proofs.raise.Raise.raise_view.Given as goal

abbrev pub invariant-loop-n : goal.invariant-loop-n
invariant-loop-n l = RaisedBelow (source_of l.self) l.n l.fn.cell l.cell
