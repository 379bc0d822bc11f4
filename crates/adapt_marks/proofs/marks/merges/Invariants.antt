use Rattle.std.proofs.Common.{ℕ, ◌<◌}
use Rattle.peano_records.specs.Tells.{corner_at}
use Rattle.adapt_marks.specs.Decisions.{CornerCoarsens}
use Rattle.adapt_marks.proofs.marks.merges.Given as goal

abbrev pub invariant-loop-n : goal.invariant-loop-n
invariant-loop-n l = (k : ℕ) → k < l.n → CornerCoarsens l.count (corner_at l.centre k)
