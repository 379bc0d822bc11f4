-- Numbers of corners and their bits.
use Rattle.std.proofs.Common.{◌≡◌, ℕ, ◌+◌, ◌<◌, ◌≤◌, arith}
use Rattle.peano_keys.specs.declared.dim.Dim.{Dim}
use Rattle.peano_keys.specs.declared.dim.Dim.TheVariants.{Two, Three}
use Rattle.peano_keys.specs.Dim.{corners, third_end}
use Rattle.peano_keys.specs.Vertex.{bit_of, number_of, slot_from}

pub number_below : (dim : Dim) (a b c : ℕ) → a ≤ 1 → b ≤ 1 → c ≤ 1 → number_of dim a b c < corners dim
number_below Two a b c ha hb hc = omega arith
number_below Three a b c ha hb hc = omega arith

pub first_bit : (dim : Dim) (a b c : ℕ) → a ≤ 1 → b ≤ 1 → c ≤ 1 → bit_of (number_of dim a b c) 0 ≡ a
first_bit Two a b c ha hb hc = omega arith
first_bit Three a b c ha hb hc = omega arith

pub second_bit : (dim : Dim) (a b c : ℕ) → a ≤ 1 → b ≤ 1 → c ≤ 1 → bit_of (number_of dim a b c) 1 ≡ b
second_bit Two a b c ha hb hc = omega arith
second_bit Three a b c ha hb hc = omega arith

-- bit 2, which a plane's numbers have not
pub third_bit : (dim : Dim) (a b c : ℕ) → a ≤ 1 → b ≤ 1 → c ≤ 1 → bit_of (number_of dim a b c) 2 ≡ third_end dim c
third_bit Two a b c ha hb hc = omega arith
third_bit Three a b c ha hb hc = omega arith

-- a slot has the opposite bits of its corner
pub slot_bit_first : (dim : Dim) (n : ℕ) → n < corners dim → bit_of n 0 + bit_of (slot_from dim n) 0 ≡ 1
slot_bit_first Two n h = omega arith
slot_bit_first Three n h = omega arith

pub slot_bit_second : (dim : Dim) (n : ℕ) → n < corners dim → bit_of n 1 + bit_of (slot_from dim n) 1 ≡ 1
slot_bit_second Two n h = omega arith
slot_bit_second Three n h = omega arith

pub slot_bit_third : (n : ℕ) → n < corners Three → bit_of n 2 + bit_of (slot_from Three n) 2 ≡ 1
slot_bit_third n h = omega arith
