-- In which ranges the numbers of a solver lie.
use Rattle.std.specs.Prelude.{◌≡◌, ℕ, ℤ, pos, ◌^◌, ◌<◌, ◌≤◌, ◌≤ℤ◌, List, slice_index_or, IfSome}
use Rattle.std.specs.Int.RustNames.{unsigned_abs}
use Rattle.peano_keys.specs.State.{count_of}
use Rattle.solver_api.specs.declared.criterion.Criterion.{Criterion}
use Rattle.volume_solver.specs.declared.edge.EdgeRule.{EdgeRule}
use Rattle.volume_solver.specs.declared.edge.EdgeRule.TheVariants.{Copy, Fixed}
use Rattle.volume_solver.specs.declared.laplacian.Laplacian.{Laplacian}
use Rattle.volume_solver.specs.declared.upwind.Upwind.{Upwind}

-- a factor: 0 to a million
pub record IsFactor (a : ℤ) : Type 0 where
  pub low : pos 0 ≤ℤ a
  pub high : a ≤ℤ pos 1000000

-- a divisor: 1 to 10^18
pub record IsDivisor (b : ℤ) : Type 0 where
  pub low : pos 1 ≤ℤ b
  pub high : b ≤ℤ pos (10 ^ 18)

-- the wind's speed on an axis
abbrev pub speed_on : List ℤ → ℕ → ℤ
speed_on wind i = slice_index_or wind i (pos 0)

-- a wind: on each axis at most a million, in either direction
pub record IsWind (wind : List ℤ) : Type 0 where
  pub first : unsigned_abs (speed_on wind 0) ≤ 1000000
  pub second : unsigned_abs (speed_on wind 1) ≤ 1000000
  pub third : unsigned_abs (speed_on wind 2) ≤ 1000000

-- a fixed state at the domain's edge has `n` values
abbrev pub EdgeHas : ℕ → EdgeRule → Type 0
EdgeHas n Copy = Unit {0}
EdgeHas n (Fixed s) = count_of s ≡ n

-- a criterion for states of `n` values
pub record IsCriterion (n : ℕ) (c : Criterion) : Type 0 where
  pub hi : pos 1 ≤ℤ c.hi
  pub lo_low : pos 0 ≤ℤ c.lo
  pub lo_high : c.lo ≤ℤ c.hi
  pub watch : c.watch < n
  pub depth : c.depth ≤ 12

-- a Laplace operator on states of `n` values
pub record IsLaplacian (n : ℕ) (k : Laplacian) : Type 0 where
  pub factor : IsFactor k.a
  pub divisor : IsDivisor k.b
  pub edge : EdgeHas n k.edge
  pub watch : IfSome k.watch (IsCriterion n)

-- an upwind scheme, on states of one value
pub record IsUpwind (k : Upwind) : Type 0 where
  pub wind : IsWind k.wind
  pub divisor : IsDivisor k.b
  pub edge : EdgeHas 1 k.edge
  pub watch : IfSome k.watch (IsCriterion 1)
