use Rattle.hanging_nodes.specs.Above.{AllAllow}
use Rattle.hanging_nodes.proofs.above.all_allow.Given as goal

abbrev pub invariant-loop-k : goal.invariant-loop-k
invariant-loop-k l = AllAllow l.question.dim l.question.cell l.question.fine l.stored l.question.after l.k
