-- Sums by number, and at other depths.
use Rattle.std.proofs.Common.{◌≡◌, ℕ, zero, suc, ◌+◌, ◌-◌, ◌*◌, ◌/◌, ◌%◌, ◌^◌, ◌<◌, ◌≤◌, ℤ, pos, negsuc, ◌*ℤ◌, Bool, true, false, List, refl, sym, ap, ◌∙◌, arith}
use Rattle.std.specs.Prelude.{◌+ℤ◌}
use Rattle.std.proofs.lemmas.Int.{ints}
use Rattle.std.proofs.lemmas.Nat.{pow-add}
use Rattle.std.proofs.Math.Nat.{pow-suc, mul-le-mul_right, div-mul-le_self, lt-div-mul-add}
use Rattle.std.proofs.Math.IntN.{*ℤ-zero}
use Rattle.peano_keys.specs.declared.dim.Dim.{Dim}
use Rattle.peano_keys.specs.declared.dim.Dim.TheVariants.{Two, Three}
use Rattle.peano_keys.specs.declared.cell.CellKey.{CellKey}
use Rattle.peano_keys.specs.Cell.{triple, child_of}
use Rattle.peano_keys.specs.Grid.{Spacetree, IsGrid, is_refined}
use Rattle.peano_keys.specs.Dim.{children}
use Rattle.peano_keys.specs.Sums.{over_digits, over_children, over_first, weight, leaf_sum, floor_of, mean_of}
use Rattle.cell_sums.specs.SumLaws.{NumbersSumChildren, WeightIsPower, MeanByAnyDepth}
use Rattle.cell_sums.proofs.Sums.{digits_same, over_same, weight_positive, times_times, neg_is, quotient_is, sum_plain, sum_refined, mean_plain, mean_refined}

pub nine : (g : ℕ → ℕ → ℤ) → over_first 9 (λ p. g (p / 3) (p % 3)) ≡ over_digits (λ a. over_digits (λ b. g a b))
unfolding over_digits
nine g = omega (arith, ints)

pub twenty_seven : (g : ℕ → ℕ → ℕ → ℤ) → over_first 27 (λ p. g (p / 9) (p / 3 % 3) (p % 3)) ≡ over_digits (λ a. over_digits (λ b. over_digits (λ c. g a b c)))
unfolding over_digits
twenty_seven g = omega (arith, ints)

pub numbers_sum_children : NumbersSumChildren
unfolding over_children
numbers_sum_children Two c f = nine (λ a b. f (child_of c (triple a b 0)))
numbers_sum_children Three c f = twenty_seven (λ a b e. f (child_of c (triple a b e)))

power_two : (n : ℕ) → 9 ^ n ≡ 3 ^ (2 * n)
power_two zero = refl
power_two (suc n) = pow-suc 9 n ∙ ap (λ z. z * 9) (power_two n) ∙ (let e : 3 ^ (2 * n + 2) ≡ 3 ^ (2 * n) * 3 ^ 2 = pow-add 3 (2 * n) 2 in let f : 2 * suc n ≡ 2 * n + 2 = omega arith in sym (ap (λ m. 3 ^ m) f ∙ e))

power_three : (n : ℕ) → 27 ^ n ≡ 3 ^ (3 * n)
power_three zero = refl
power_three (suc n) = pow-suc 27 n ∙ ap (λ z. z * 27) (power_three n) ∙ (let e : 3 ^ (3 * n + 3) ≡ 3 ^ (3 * n) * 3 ^ 3 = pow-add 3 (3 * n) 3 in let f : 3 * suc n ≡ 3 * n + 3 = omega arith in sym (ap (λ m. 3 ^ m) f ∙ e))

pub weight_is_power : WeightIsPower
weight_is_power Two n = power_two n
weight_is_power Three n = power_three n

pub times_suc : (z : ℤ) (w : ℕ) → z *ℤ pos (suc w) ≡ z *ℤ pos w +ℤ z
times_suc z w = omega (arith, ints)

pub shared_out : (a b : ℤ) (w : ℕ) → (a +ℤ b) *ℤ pos w ≡ a *ℤ pos w +ℤ b *ℤ pos w
shared_out a b zero = *ℤ-zero (a +ℤ b) ∙ sym (λ i. *ℤ-zero a i +ℤ *ℤ-zero b i)
shared_out a b (suc w) = times_suc (a +ℤ b) w ∙ ap (λ z. z +ℤ (a +ℤ b)) (shared_out a b w) ∙ turn (a *ℤ pos w) (b *ℤ pos w) a b ∙ sym (let p = times_suc a w in let q = times_suc b w in λ i. p i +ℤ q i)
  where
    turn : (x y a b : ℤ) → (x +ℤ y) +ℤ (a +ℤ b) ≡ (x +ℤ a) +ℤ (y +ℤ b)
    turn x y a b = omega (arith, ints)

digits_scaled : (f : ℕ → ℤ) (w : ℕ) → over_digits (λ a. f a *ℤ pos w) ≡ over_digits f *ℤ pos w
unfolding over_digits
digits_scaled f w = ap (λ z. f 0 *ℤ pos w +ℤ z) (sym (shared_out (f 1) (f 2) w)) ∙ sym (shared_out (f 0) (f 1 +ℤ f 2) w)

pub over_scaled : (dim : Dim) (f : List ℕ → ℤ) (w : ℕ) → over_children dim (λ k. f k *ℤ pos w) ≡ over_children dim f *ℤ pos w
unfolding over_children
over_scaled Two f w = digits_same _ _ (λ a ha. digits_scaled (λ b. f (triple a b 0)) w) ∙ digits_scaled (λ a. over_digits (λ b. f (triple a b 0))) w
over_scaled Three f w = digits_same _ _ (λ a ha. digits_same _ _ (λ b hb. digits_scaled (λ c. f (triple a b c)) w) ∙ digits_scaled (λ b. over_digits (λ c. f (triple a b c))) w) ∙ digits_scaled (λ a. over_digits (λ b. over_digits (λ c. f (triple a b c)))) w

-- both parts of a quotient times a number
floor_scaled : (s : ℤ) (w v : ℕ) → 0 < w → 0 < v → floor_of (s *ℤ pos v) (w * v) ≡ floor_of s w
floor_scaled (pos a) w v hw hv =
    let low : a / w * w * v ≤ a * v = mul-le-mul_right v (div-mul-le_self a w) in
    let high : suc a * v ≤ (a / w * w + w) * v = mul-le-mul_right v (lt-div-mul-add {a = a} {b = w} hw) in
    let positive : 1 * v ≤ w * v = mul-le-mul_right v hw in
    ap pos (quotient_is (a * v) (a / w) (w * v) (omega (arith, positive, hv)) (omega (arith, low)) (omega (arith, high, hv)))
floor_scaled (negsuc a) w v hw hv =
    let more : 0 < suc a * v = (let row : 1 * v ≤ suc a * v = mul-le-mul_right v (let l : 1 ≤ suc a = omega arith in l) in omega (arith, row, hv)) in
    let low : a / w * w * v ≤ a * v = mul-le-mul_right v (div-mul-le_self a w) in
    let high : suc a * v ≤ (a / w * w + w) * v = mul-le-mul_right v (lt-div-mul-add {a = a} {b = w} hw) in
    let positive : 1 * v ≤ w * v = mul-le-mul_right v hw in
    ap (λ z. floor_of z (w * v)) (neg_is (suc a * v) more) ∙ ap negsuc (quotient_is (suc a * v - 1) (a / w) (w * v) (omega (arith, positive, hv)) (omega (arith, low, hv)) (omega (arith, high, more)))

weight_add : (dim : Dim) (n m : ℕ) → weight dim (n + m) ≡ weight dim n * weight dim m
weight_add dim n m = pow-add (children dim) n m

module _ (depth more : ℕ) (t : Spacetree) (x : CellKey → ℤ) (grid : IsGrid depth t) where
  plain_scaled : (n : ℕ) (c : CellKey) → is_refined t c ≡ false → leaf_sum t x (n + more) c ≡ leaf_sum t x n c *ℤ pos (weight t.dim more)
  plain_scaled n c h = sum_plain t x (n + more) c h ∙ ap (λ w. x c *ℤ pos w) (weight_add t.dim n more) ∙ sym (times_times (x c) (weight t.dim n) (weight t.dim more)) ∙ ap (λ z. z *ℤ pos (weight t.dim more)) (sym (sum_plain t x n c h))

  no_more : (c : CellKey) → c.level + 0 ≡ depth → (b : Bool) → is_refined t c ≡ b → is_refined t c ≡ false
  no_more c e true h = absurd (omega (arith, grid.levels c h, e))
  no_more c e false h = h

  scaled : (n : ℕ) (c : CellKey) → c.level + n ≡ depth → leaf_sum t x (n + more) c ≡ leaf_sum t x n c *ℤ pos (weight t.dim more)
  scaled zero c e = plain_scaled zero c (no_more c e (is_refined t c) refl)
  scaled (suc n) c e = elim (is_refined t c) as (λ b. is_refined t c ≡ b → leaf_sum t x (suc n + more) c ≡ leaf_sum t x (suc n) c *ℤ pos (weight t.dim more)) [
    | false ↦ λ h. plain_scaled (suc n) c h
    | true ↦ λ h.
        let up : suc n + more ≡ suc (n + more) = omega arith in
        ap (λ m. leaf_sum t x m c) up
        ∙ sum_refined t x (n + more) c h
        ∙ over_same t.dim _ _ (λ k d. scaled n (child_of c k) (omega (arith, e)))
        ∙ over_scaled t.dim (λ k. leaf_sum t x n (child_of c k)) (weight t.dim more)
        ∙ ap (λ z. z *ℤ pos (weight t.dim more)) (sym (sum_refined t x n c h))
  ] refl

  same_mean : (n : ℕ) (c : CellKey) → c.level + n ≡ depth → mean_of t x (n + more) c ≡ mean_of t x n c
  same_mean n c e = elim (is_refined t c) as (λ b. is_refined t c ≡ b → mean_of t x (n + more) c ≡ mean_of t x n c) [
    | false ↦ λ h. mean_plain t x (n + more) c h ∙ sym (mean_plain t x n c h)
    | true ↦ λ h.
        mean_refined t x (n + more) c h
        ∙ (let p = scaled n c e in let q = weight_add t.dim n more in λ i. floor_of (p i) (q i))
        ∙ floor_scaled (leaf_sum t x n c) (weight t.dim n) (weight t.dim more) (weight_positive t.dim n) (weight_positive t.dim more)
        ∙ sym (mean_refined t x n c h)
  ] refl

pub mean_by_any_depth : MeanByAnyDepth
mean_by_any_depth depth more t x c grid level =
    let e : depth + more - c.level ≡ depth - c.level + more = omega (arith, level) in
    ap (λ n. mean_of t x n c) e ∙ same_mean depth more t x grid (depth - c.level) c (omega (arith, level))
