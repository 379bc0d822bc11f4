-- Bounds on powers of three, for levels and for curve positions.
use Rattle.std.proofs.Common.{ℕ, ◌^◌, ◌<◌, ◌≤◌, arith, lit<}
use Rattle.std.proofs.Math.Nat.{pow-le-pow_right}

-- a level that the engine serves has at most 531,441 cells on an axis
pub pow3_by_12 : (l : ℕ) → l ≤ 12 → 3 ^ l ≤ 531441
pow3_by_12 l h = pow-le-pow_right (lit< tt) h

-- a power of three is at least one
pub pow3_positive : (l : ℕ) → 1 ≤ 3 ^ l
pow3_positive l = let from_zero : 0 ≤ l = omega arith in pow-le-pow_right (lit< tt) from_zero

-- powers of three up to the fortieth fit 64 bits
pub pow3_by_40 : (n : ℕ) → n ≤ 40 → 3 ^ n < 18446744073709551616
pow3_by_40 n h = omega (arith, let most : 3 ^ n ≤ 3 ^ 40 = pow-le-pow_right (lit< tt) h in most)
