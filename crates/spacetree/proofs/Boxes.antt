-- Bounds on places in the finest unit.
use Rattle.std.proofs.Common.{ℕ, ◌*◌, ◌^◌, ◌<◌, ◌≤◌, arith}
use Rattle.std.proofs.Math.Nat.{mul-le-mul}
use Rattle.peano_keys.proofs.Powers.{pow3_by_12}

pub scaled_fits : (n l : ℕ) → n ≤ 1062883 → l ≤ 12 → n * 3 ^ l < 18446744073709551616
scaled_fits n l h g = omega (arith, mul-le-mul h (pow3_by_12 l g))
