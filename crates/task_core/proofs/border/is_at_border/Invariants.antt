use Rattle.std.proofs.Common.{ℕ, ◌<◌}
use Rattle.task_core.specs.Tours.{IsBroken}
use Rattle.task_core.proofs.border.is_at_border.Given as goal

abbrev pub invariant-loop-n : goal.invariant-loop-n
invariant-loop-n l = (m : ℕ) → m < l.n → ¬ IsBroken l.grid l.vertex m
