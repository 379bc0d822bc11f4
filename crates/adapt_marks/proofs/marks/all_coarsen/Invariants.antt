use Rattle.adapt_marks.specs.Decisions.{AllCoarsen}
use Rattle.adapt_marks.proofs.marks.all_coarsen.Given as goal

abbrev pub invariant-loop-k : goal.invariant-loop-k
invariant-loop-k l = AllCoarsen l.k l.stored
