-- The watched component of a criterion in range.
use Rattle.std.proofs.Common.{◌≡◌, ℕ, ◌<◌, arith}
use Rattle.std.specs.Prelude.{Option, None, Some, IfSome}
use Rattle.solver_api.specs.declared.criterion.Criterion.{Criterion}
use Rattle.volume_solver.specs.Ranges.{IsCriterion}

-- a component that states of `n` values have is one of a state that has as many
pub watched_within : (n m : ℕ) (watch : Option Criterion) → IfSome watch (IsCriterion n) → m ≡ n → IfSome watch (λ c. c.watch < m)
watched_within n m None h e = tt
watched_within n m (Some c) h e = omega (arith, h.watch, e)
