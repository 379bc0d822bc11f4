-- States of the floors of sums, value by value.
use Rattle.std.proofs.Common.{◌≡◌, ℕ, zero, suc, ◌<◌, ℤ, List, refl, arith}
use Rattle.std.specs.Int.{w64}
use Rattle.std.specs.Int.RustNames.{FitsSigned}
use Rattle.peano_keys.specs.declared.state.State.TheVariants.{Triple, Quadruple}
use Rattle.peano_keys.specs.State.{value_at}
use Rattle.peano_keys.specs.Sums.{floor_of}
use Rattle.step_sweeps.specs.Secondaries.{HasMeans, sum_of}

-- a number is the floor of a sum, where that has 64 bits
abbrev pub IsMean : ℤ → List ℤ → ℕ → ℕ → Type 0
IsMean a x i w = FitsSigned w64 (floor_of (sum_of x i) w) → a ≡ floor_of (sum_of x i) w

pub three_means : (w : ℕ) (x : List ℤ) (a b c : ℤ) → IsMean a x 0 w → IsMean b x 1 w → IsMean c x 2 w → HasMeans 3 w x (Triple a b c)
three_means w x a b c f g h = record { count = refl; each = each }
  where
    each : (i : ℕ) → i < 3 → FitsSigned w64 (floor_of (sum_of x i) w) → value_at (Triple a b c) i ≡ floor_of (sum_of x i) w
    each zero below fits = f fits
    each (suc zero) below fits = g fits
    each (suc (suc zero)) below fits = h fits
    each (suc (suc (suc i))) below fits = absurd (omega (arith, below))

pub four_means : (w : ℕ) (x : List ℤ) (a b c d : ℤ) → IsMean a x 0 w → IsMean b x 1 w → IsMean c x 2 w → IsMean d x 3 w → HasMeans 4 w x (Quadruple a b c d)
four_means w x a b c d f g h k = record { count = refl; each = each }
  where
    each : (i : ℕ) → i < 4 → FitsSigned w64 (floor_of (sum_of x i) w) → value_at (Quadruple a b c d) i ≡ floor_of (sum_of x i) w
    each zero below fits = f fits
    each (suc zero) below fits = g fits
    each (suc (suc zero)) below fits = h fits
    each (suc (suc (suc zero))) below fits = k fits
    each (suc (suc (suc (suc i)))) below fits = absurd (omega (arith, below))
