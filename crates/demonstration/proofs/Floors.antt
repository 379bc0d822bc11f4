-- Quotients rounded down, of numbers within bounds.
use Rattle.std.proofs.Common.{◌≡◌, ℕ, suc, ◌+◌, ◌*◌, ◌/◌, ◌<◌, ◌≤◌, arith}
use Rattle.std.proofs.Math.Nat.{mul-le-mul_left, mul-le-mul_right}
use Rattle.std.proofs.lemmas.Nat.{div_below}
use Rattle.std.proofs.lemmas.Int.{ints}
use Rattle.std.specs.Prelude.{ℤ, pos, negsuc, ◌≤ℤ◌, ◌+ℤ◌, ◌-ℤ◌, ◌*ℤ◌}
use Rattle.std.specs.Int.{int_div_euclid}

quotient_at_most : (a m d : ℕ) → 0 < m → a ≤ m * d → a / m ≤ d
quotient_at_most a m d h e =
    let next : (d + 1) * m ≡ m * d + m = omega arith in
    let below : a / m < d + 1 = div_below a m (d + 1) h (omega (arith, next)) in
    omega (arith, below)

floor_at_most : (z : ℤ) (m d : ℕ) → 0 < m → z ≤ℤ pos (m * d) → int_div_euclid z (pos m) ≤ℤ pos d
floor_at_most (pos a) m d h e =
    let few : a ≤ m * d = omega (arith, ints) in
    let found = quotient_at_most a m d h few in
    omega (arith, ints, found)
floor_at_most (negsuc a) m d h e = omega (arith, ints)

floor_at_least : (z : ℤ) (m d : ℕ) → 0 < m → pos 0 ≤ℤ (z +ℤ pos (m * d)) → pos 0 ≤ℤ (int_div_euclid z (pos m) +ℤ pos d)
floor_at_least (pos a) m d h e = omega (arith, ints)
floor_at_least (negsuc a) m d h e =
    let few : a < m * d = omega (arith, ints) in
    let turned : m * d ≡ d * m = omega arith in
    let found : a / m < d = div_below a m d h (omega (arith, few, turned)) in
    omega (arith, ints, found)

-- a product with a factor of which four times is no more than `m`
product_at_most : (c m d : ℕ) (s : ℤ) → 4 * c ≤ m → s ≤ℤ pos (4 * d) → (pos c *ℤ s) ≤ℤ pos (m * d)
product_at_most c m d (pos s) few h =
    let small : s ≤ 4 * d = omega (arith, ints) in
    let first = mul-le-mul_left c small in
    let second = mul-le-mul_right d few in
    let same : c * (4 * d) ≡ 4 * c * d = omega arith in
    let all : c * s ≤ m * d = omega (arith, first, second, same) in
    omega (arith, ints, all)
product_at_most c m d (negsuc s) few h = omega (arith, ints)

product_at_least : (c m d : ℕ) (s : ℤ) → 4 * c ≤ m → pos 0 ≤ℤ (s +ℤ pos (4 * d)) → pos 0 ≤ℤ ((pos c *ℤ s) +ℤ pos (m * d))
product_at_least c m d (pos s) few h = omega (arith, ints)
product_at_least c m d (negsuc s) few h =
    let small : suc s ≤ 4 * d = omega (arith, ints) in
    let first = mul-le-mul_left c small in
    let second = mul-le-mul_right d few in
    let same : c * (4 * d) ≡ 4 * c * d = omega arith in
    let all : c * suc s ≤ m * d = omega (arith, first, second, same) in
    omega (arith, ints, all)

-- how far one number lies above another
above : (a b : ℤ) → a ≤ℤ b → (n : ℕ) × (b ≡ a +ℤ pos n)
above a b h = go (b -ℤ a) (omega (arith, ints)) where
  go : (z : ℤ) → b ≡ a +ℤ z → (n : ℕ) × (b ≡ a +ℤ pos n)
  go (pos n) e = (n, e)
  go (negsuc n) e = absurd (omega (arith, ints))

-- the sum of the rises to four numbers
abbrev pub rises_to : ℤ → ℤ → ℤ → ℤ → ℤ → ℤ
rises_to u a b c d = (a -ℤ u) +ℤ ((b -ℤ u) +ℤ ((c -ℤ u) +ℤ ((d -ℤ u) +ℤ pos 0)))

-- a number moved by the `k / m` of its rises to four numbers, rounded down, stays where they all lie
pub moves_at_most : (high u a b c d : ℤ) (k m : ℕ) → 0 < m → 4 * k ≤ m → u ≤ℤ high → a ≤ℤ high → b ≤ℤ high → c ≤ℤ high → d ≤ℤ high → (u +ℤ int_div_euclid (pos k *ℤ rises_to u a b c d) (pos m)) ≤ℤ high
moves_at_most high u a b c d k m some few hu ha hb hc hd =
    let room = above u high hu in
    let n : ℕ = room.0 in
    let e : high ≡ u +ℤ pos n = room.1 in
    let sum : rises_to u a b c d ≤ℤ pos (4 * n) = omega (arith, ints) in
    let floor = floor_at_most (pos k *ℤ rises_to u a b c d) m n some (product_at_most k m n (rises_to u a b c d) few sum) in
    omega (arith, ints, floor, e)

pub moves_at_least : (low u a b c d : ℤ) (k m : ℕ) → 0 < m → 4 * k ≤ m → low ≤ℤ u → low ≤ℤ a → low ≤ℤ b → low ≤ℤ c → low ≤ℤ d → low ≤ℤ (u +ℤ int_div_euclid (pos k *ℤ rises_to u a b c d) (pos m))
moves_at_least low u a b c d k m some few hu ha hb hc hd =
    let room = above low u hu in
    let n : ℕ = room.0 in
    let e : u ≡ low +ℤ pos n = room.1 in
    let sum : pos 0 ≤ℤ (rises_to u a b c d +ℤ pos (4 * n)) = omega (arith, ints) in
    let floor = floor_at_least (pos k *ℤ rises_to u a b c d) m n some (product_at_least k m n (rises_to u a b c d) few sum) in
    omega (arith, ints, floor, e)
