-- Bounds on values, products and quotients.
use Rattle.std.proofs.Common.{◌≡◌, ℕ, ◌<◌, ◌≤◌, ◌^◌, arith, lit<}
use Rattle.std.specs.Prelude.{ℤ, pos, negsuc, ◌≤ℤ◌, ◌+ℤ◌}
use Rattle.std.specs.Int.{int_div_euclid}
use Rattle.std.specs.Int.RustNames.{unsigned_abs}
use Rattle.std.proofs.Math.Nat.{div-le_self, pow-le-pow_right}
use Rattle.std.proofs.lemmas.Int.{ints}
use Rattle.peano_keys.specs.declared.state.State.{State}
use Rattle.peano_keys.specs.declared.state.State.TheVariants.{Single, Pair, Triple, Quadruple}
use Rattle.peano_keys.specs.State.{count_of}

-- a state has a first value
pub count_positive : (s : State) → 0 < count_of s
count_positive (Single a) = omega arith
count_positive (Pair a b) = omega arith
count_positive (Triple a b c) = omega arith
count_positive (Quadruple a b c d) = omega arith

-- a quotient rounded down is no larger than what is divided
pub floor_bound : (z b : ℤ) → pos 1 ≤ℤ b → unsigned_abs (int_div_euclid z b) ≤ unsigned_abs z
floor_bound (pos a) (pos b) h = div-le_self a b
floor_bound (negsuc a) (pos b) h = omega (arith, div-le_self a b)
floor_bound z (negsuc b) h = absurd (omega (arith, ints))

-- nine to the level
pub pow9_by_12 : (l : ℕ) → l ≤ 12 → 9 ^ l ≤ 282429536481
pow9_by_12 l h = pow-le-pow_right (lit< tt) h

-- four numbers, added in pairs and in turn
pub four_in_turn : (a b c d : ℤ) → (a +ℤ b) +ℤ (c +ℤ d) ≡ a +ℤ (b +ℤ (c +ℤ (d +ℤ pos 0)))
four_in_turn a b c d = omega (arith, ints)

-- and six
pub six_in_turn : (a b c d e f : ℤ) → ((a +ℤ b) +ℤ (c +ℤ d)) +ℤ (e +ℤ f) ≡ a +ℤ (b +ℤ (c +ℤ (d +ℤ (e +ℤ (f +ℤ pos 0)))))
six_in_turn a b c d e f = omega (arith, ints)
