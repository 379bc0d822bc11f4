-- Mirror images: across a face the cells of one level come in the reverse order.
use Rattle.std.proofs.Common.{◌≡◌, ℕ, zero, suc, ◌+◌, ◌*◌, ◌/◌, ◌%◌, ◌^◌, ◌-◌, ◌<◌, ◌≤◌, arith, lit<, refl, sym, ap, ◌∙◌}
use Rattle.std.proofs.lemmas.Bool.Decides.{nat_tests}
use Rattle.std.proofs.Math.Nat.{pow-zero, pow-succ', mul-le-mul_right, one-le-pow}
use Rattle.peano_keys.specs.declared.dim.Dim.{Dim}
use Rattle.peano_keys.specs.declared.dim.Dim.TheVariants.{Two, Three}
use Rattle.peano_keys.specs.Dim.{children}
use Rattle.stack_law.specs.Digits.{turned}
use Rattle.peano_curve.specs.Order.{place_of, rank_from}
use Rattle.peano_curve.proofs.Splits.{turned_other}

-- the two digits at a plane are mirror images
turned_ends : (s t : ℕ) → s ≡ t → turned s 2 + turned t 0 ≡ 2
turned_ends s t e = grind (arith, nat_tests)

-- the places of two children at both sides of a plane on axis 0, 1 or 2, between the parents at z - 1 and z
places_0 : (dim : Dim) (z x1 x2 k1 k2 : ℕ) → 0 < z → k1 < 3 → k2 < 3 → place_of dim (z - 1) x1 x2 2 k1 k2 + place_of dim z x1 x2 0 k1 k2 + 1 ≡ children dim
places_0 Two z x1 x2 k1 k2 pos h1 h2 = omega (arith, turned_ends x1 x1 refl, turned_other (z - 1 + 2) (z + 0) k1 (omega arith) h1)
places_0 Three z x1 x2 k1 k2 pos h1 h2 = omega (arith, turned_ends (x1 + x2) (x1 + x2) refl, turned_other (z - 1 + x2 + 2) (z + x2 + 0) k1 (omega arith) h1, turned_other (z - 1 + x1 + 2 + k1) (z + x1 + 0 + k1) k2 (omega arith) h2)

places_1 : (dim : Dim) (z x0 x2 k0 k2 : ℕ) → 0 < z → k0 < 3 → k2 < 3 → place_of dim x0 (z - 1) x2 k0 2 k2 + place_of dim x0 z x2 k0 0 k2 + 1 ≡ children dim
places_1 Two z x0 x2 k0 k2 pos h0 h2 = omega (arith, turned_other (z - 1) z k0 (omega arith) h0, turned_ends (x0 + k0) (x0 + k0) refl)
places_1 Three z x0 x2 k0 k2 pos h0 h2 = omega (arith, turned_other (z - 1 + x2) (z + x2) k0 (omega arith) h0, turned_ends (x0 + x2 + k0) (x0 + x2 + k0) refl, turned_other (x0 + (z - 1) + k0 + 2) (x0 + z + k0 + 0) k2 (omega arith) h2)

places_2 : (z x0 x1 k0 k1 : ℕ) → 0 < z → k0 < 3 → k1 < 3 → place_of Three x0 x1 (z - 1) k0 k1 2 + place_of Three x0 x1 z k0 k1 0 + 1 ≡ children Three
places_2 z x0 x1 k0 k1 pos h0 h1 = omega (arith, turned_other (x1 + (z - 1)) (x1 + z) k0 (omega arith) h0, turned_other (x0 + (z - 1) + k0) (x0 + z + k0) k1 (omega arith) h1, turned_ends (x0 + x1 + k0 + k1) (x0 + x1 + k0 + k1) refl)

-- one level of the law, from the ranks of the parents
sum_levels : (n r s p q w : ℕ) → p + q + 1 ≡ n → r + s + 1 ≡ w → n * r + p + (n * s + q) + 1 ≡ n * w
sum_levels n r s p q w places above = rw (← above) (sum_level n r s p q places)
  where
    sum_level : (n r s p q : ℕ) → p + q + 1 ≡ n → n * r + p + (n * s + q) + 1 ≡ n * (r + s + 1)
    sum_level n r s p q h = rw (← h) (grind arith)

-- the coordinates at both sides of a plane that is 3^m times one of a level above, a level up
below_div : (z : ℕ) → 0 < z → (z * 3 - 1) / 3 ≡ z - 1
below_div z pos = omega arith

below_mod : (z : ℕ) → 0 < z → (z * 3 - 1) % 3 ≡ 2
below_mod z pos = omega arith

above_div : (z : ℕ) → z * 3 / 3 ≡ z
above_div z = omega arith

above_mod : (z : ℕ) → z * 3 % 3 ≡ 0
above_mod z = omega arith

plane_up : (v m : ℕ) → v * 3 ^ suc m ≡ v * 3 ^ m * 3
plane_up v m = rw (pow-succ' 3 m) (grind arith)

pub plane_positive : (v m : ℕ) → 0 < v → 0 < v * 3 ^ m
plane_positive v m pos = let row : 1 * 3 ^ m ≤ v * 3 ^ m = mul-le-mul_right (3 ^ m) pos in let one : 1 ≤ 3 ^ m = one-le-pow m 3 (lit< tt) in omega arith

-- a level further, at a plane on axis 0, 1 or 2
step_0 : (dim : Dim) (m z x1 x2 w : ℕ) → 0 < z → rank_from dim m (z - 1) (x1 / 3) (x2 / 3) + rank_from dim m z (x1 / 3) (x2 / 3) + 1 ≡ w → rank_from dim (suc m) (z * 3 - 1) x1 x2 + rank_from dim (suc m) (z * 3) x1 x2 + 1 ≡ children dim * w
step_0 dim m z x1 x2 w pos above = rw (below_div z pos, below_mod z pos, above_div z, above_mod z) (sum_levels (children dim) (rank_from dim m (z - 1) (x1 / 3) (x2 / 3)) (rank_from dim m z (x1 / 3) (x2 / 3)) _ _ w (places_0 dim z (x1 / 3) (x2 / 3) (x1 % 3) (x2 % 3) pos (omega arith) (omega arith)) above)

step_1 : (dim : Dim) (m z x0 x2 w : ℕ) → 0 < z → rank_from dim m (x0 / 3) (z - 1) (x2 / 3) + rank_from dim m (x0 / 3) z (x2 / 3) + 1 ≡ w → rank_from dim (suc m) x0 (z * 3 - 1) x2 + rank_from dim (suc m) x0 (z * 3) x2 + 1 ≡ children dim * w
step_1 dim m z x0 x2 w pos above = rw (below_div z pos, below_mod z pos, above_div z, above_mod z) (sum_levels (children dim) (rank_from dim m (x0 / 3) (z - 1) (x2 / 3)) (rank_from dim m (x0 / 3) z (x2 / 3)) _ _ w (places_1 dim z (x0 / 3) (x2 / 3) (x0 % 3) (x2 % 3) pos (omega arith) (omega arith)) above)

step_2 : (m z x0 x1 w : ℕ) → 0 < z → rank_from Three m (x0 / 3) (x1 / 3) (z - 1) + rank_from Three m (x0 / 3) (x1 / 3) z + 1 ≡ w → rank_from Three (suc m) x0 x1 (z * 3 - 1) + rank_from Three (suc m) x0 x1 (z * 3) + 1 ≡ children Three * w
step_2 m z x0 x1 w pos above = rw (below_div z pos, below_mod z pos, above_div z, above_mod z) (sum_levels (children Three) (rank_from Three m (x0 / 3) (x1 / 3) (z - 1)) (rank_from Three m (x0 / 3) (x1 / 3) z) _ _ w (places_2 z (x0 / 3) (x1 / 3) (x0 % 3) (x1 % 3) pos (omega arith) (omega arith)) above)

-- ranks at both sides of a plane, m levels below the cells that it bounds, sum to one less than the number of cells there
pub mirror_0 : (dim : Dim) (m v x1 x2 : ℕ) → 0 < v → rank_from dim m (v * 3 ^ m - 1) x1 x2 + rank_from dim m (v * 3 ^ m) x1 x2 + 1 ≡ children dim ^ m
mirror_0 dim zero v x1 x2 pos = sym (pow-zero (children dim))
mirror_0 dim (suc m) v x1 x2 pos =
    ap (λ z. rank_from dim (suc m) (z - 1) x1 x2 + rank_from dim (suc m) z x1 x2 + 1) (plane_up v m)
    ∙ step_0 dim m (v * 3 ^ m) x1 x2 (children dim ^ m) (plane_positive v m pos) (mirror_0 dim m v (x1 / 3) (x2 / 3) pos)
    ∙ sym (pow-succ' (children dim) m)

pub mirror_1 : (dim : Dim) (m v x0 x2 : ℕ) → 0 < v → rank_from dim m x0 (v * 3 ^ m - 1) x2 + rank_from dim m x0 (v * 3 ^ m) x2 + 1 ≡ children dim ^ m
mirror_1 dim zero v x0 x2 pos = sym (pow-zero (children dim))
mirror_1 dim (suc m) v x0 x2 pos =
    ap (λ z. rank_from dim (suc m) x0 (z - 1) x2 + rank_from dim (suc m) x0 z x2 + 1) (plane_up v m)
    ∙ step_1 dim m (v * 3 ^ m) x0 x2 (children dim ^ m) (plane_positive v m pos) (mirror_1 dim m v (x0 / 3) (x2 / 3) pos)
    ∙ sym (pow-succ' (children dim) m)

pub mirror_2 : (m v x0 x1 : ℕ) → 0 < v → rank_from Three m x0 x1 (v * 3 ^ m - 1) + rank_from Three m x0 x1 (v * 3 ^ m) + 1 ≡ children Three ^ m
mirror_2 zero v x0 x1 pos = sym (pow-zero (children Three))
mirror_2 (suc m) v x0 x1 pos =
    ap (λ z. rank_from Three (suc m) x0 x1 (z - 1) + rank_from Three (suc m) x0 x1 z + 1) (plane_up v m)
    ∙ step_2 m (v * 3 ^ m) x0 x1 (children Three ^ m) (plane_positive v m pos) (mirror_2 m v (x0 / 3) (x1 / 3) pos)
    ∙ sym (pow-succ' (children Three) m)
