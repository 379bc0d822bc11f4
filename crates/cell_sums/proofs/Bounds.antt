-- Bounds on sums and means.
use Rattle.std.proofs.Common.{◌≡◌, ℕ, zero, suc, ◌*◌, ◌/◌, ◌-◌, ◌^◌, lit<, ◌<◌, ◌≤◌, ℤ, pos, negsuc, ◌*ℤ◌, Bool, true, false, if◌then◌else◌, List, ⊎_elim, refl, sym, ap, subst, ◌∙◌, arith}
use Rattle.std.specs.Prelude.{◌+ℤ◌, ◌≤ℤ◌, unsigned_abs}
use Rattle.std.proofs.lemmas.Int.{ints}
use Rattle.std.proofs.lemmas.Bool.{cases_lt}
use Rattle.std.proofs.Math.Nat.{pow-le-pow_right, mul-le-mul_right, div-mul-le_self, lt-div-mul-add}
use Rattle.peano_keys.specs.declared.dim.Dim.{Dim}
use Rattle.peano_keys.specs.declared.dim.Dim.TheVariants.{Two, Three}
use Rattle.peano_keys.specs.declared.cell.CellKey.{CellKey}
use Rattle.peano_keys.specs.Cell.{IsDigits, triple, child_of}
use Rattle.peano_keys.specs.Grid.{Spacetree, is_refined}
use Rattle.peano_keys.specs.Dim.{children}
use Rattle.peano_keys.specs.Sums.{over_digits, over_children, weight, leaf_sum, floor_of}
use Rattle.cell_sums.specs.Bounds.{LiesBetween, WeighsBetween, MeansAreBetween, FloorIsBetween, least_word, greatest_word, SumsStayBelow, MeansFit}
use Rattle.cell_sums.proofs.Means.{like_at, beyond}
use Rattle.std.specs.Int.{w64}
use Rattle.std.specs.Int.RustNames.{FitsSigned}
use Rattle.peano_keys.specs.declared.state.State.{State}
use Rattle.peano_keys.specs.State.{count_of, value_at}
use Rattle.peano_keys.specs.Field.{state_at, centre_state, state_like, component_of, component_mean}
use Rattle.cell_sums.proofs.Sums.{times_times, floor_exact, weight_positive, weight_up, sum_plain, sum_refined}

div_rises : (a b w : ℕ) → 0 < w → a ≤ b → a / w ≤ b / w
div_rises a b w h less = ⊎_elim
    (λ l. (let row : suc (b / w) * w ≤ a / w * w = mul-le-mul_right w (let m : suc (b / w) ≤ a / w = omega (arith, l) in m) in absurd (omega (arith, row, less, div-mul-le_self a w, lt-div-mul-add {a = b} {b = w} h))))
    (λ m. m)
    (cases_lt (b / w) (a / w))

floor_rises : (a b : ℤ) (w : ℕ) → 0 < w → a ≤ℤ b → floor_of a w ≤ℤ floor_of b w
floor_rises (pos a) (pos b) w p h = (let r : a / w ≤ b / w = div_rises a b w p (omega (arith, ints, h)) in omega (arith, ints, r))
floor_rises (negsuc a) (pos b) w p h = omega (arith, ints)
floor_rises (pos a) (negsuc b) w p h = absurd (omega (arith, ints, h))
floor_rises (negsuc a) (negsuc b) w p h = (let r : b / w ≤ a / w = div_rises b a w p (omega (arith, ints, h)) in omega (arith, ints, r))

pub product_rises : (a b : ℤ) (w : ℕ) → a ≤ℤ b → (a *ℤ pos w) ≤ℤ (b *ℤ pos w)
product_rises (pos a) (pos b) w h = (let r : a * w ≤ b * w = mul-le-mul_right w (omega (arith, ints, h)) in omega (arith, ints, r))
product_rises (negsuc a) (pos b) w h = omega (arith, ints)
product_rises (pos a) (negsuc b) w h = absurd (omega (arith, ints, h))
product_rises (negsuc a) (negsuc b) w h = (let r : suc b * w ≤ suc a * w = mul-le-mul_right w (omega (arith, ints, h)) in omega (arith, ints, r))

pub floor_is_between : FloorIsBetween
floor_is_between lo hi s w h b = record {
  low = subst (λ z. z ≤ℤ floor_of s w) (floor_exact lo w h) (floor_rises (lo *ℤ pos w) s w h b.low);
  high = subst (λ z. floor_of s w ≤ℤ z) (floor_exact hi w h) (floor_rises s (hi *ℤ pos w) w h b.high);
}

pub weighed : (lo hi x : ℤ) (w : ℕ) → LiesBetween lo hi x → WeighsBetween lo hi w (x *ℤ pos w)
weighed lo hi x w b = record { low = product_rises lo x w b.low; high = product_rises x hi w b.high }

digits_between : (a b : ℤ) (f : ℕ → ℤ) → ((x : ℕ) → x < 3 → LiesBetween a b (f x)) → LiesBetween (a *ℤ pos 3) (b *ℤ pos 3) (over_digits f)
unfolding over_digits
digits_between a b f h = (let p = h 0 (omega arith) in let q = h 1 (omega arith) in let r = h 2 (omega arith) in record { low = three_low a (f 0) (f 1) (f 2) p.low q.low r.low; high = three_high b (f 0) (f 1) (f 2) p.high q.high r.high })
  where
    three_low : (a x y z : ℤ) → a ≤ℤ x → a ≤ℤ y → a ≤ℤ z → (a *ℤ pos 3) ≤ℤ (x +ℤ (y +ℤ z))
    three_low a x y z p q r = omega (arith, ints)

    three_high : (b x y z : ℤ) → x ≤ℤ b → y ≤ℤ b → z ≤ℤ b → (x +ℤ (y +ℤ z)) ≤ℤ (b *ℤ pos 3)
    three_high b x y z p q r = omega (arith, ints)

between_is : (a a' b b' z : ℤ) → a ≡ a' → b ≡ b' → LiesBetween a b z → LiesBetween a' b' z
between_is a a' b b' z e f h = subst (λ x. LiesBetween x b' z) e (subst (λ y. LiesBetween a y z) f h)

children_between : (dim : Dim) (a b : ℤ) (f : List ℕ → ℤ) → ((k : List ℕ) → IsDigits dim k → LiesBetween a b (f k)) → LiesBetween (a *ℤ pos (children dim)) (b *ℤ pos (children dim)) (over_children dim f)
unfolding over_children
children_between Two a b f h = between_is ((a *ℤ pos 3) *ℤ pos 3) (a *ℤ pos 9) ((b *ℤ pos 3) *ℤ pos 3) (b *ℤ pos 9) (over_children Two f) (times_times a 3 3) (times_times b 3 3) (digits_between (a *ℤ pos 3) (b *ℤ pos 3) (λ x. over_digits (λ y. f (triple x y 0))) (λ x hx. digits_between a b (λ y. f (triple x y 0)) (λ y hy. h (triple x y 0) (record { shape = refl; first = hx; second = hy; third = omega arith }))))
children_between Three a b f h =
    between_is (((a *ℤ pos 3) *ℤ pos 3) *ℤ pos 3) (a *ℤ pos 27) (((b *ℤ pos 3) *ℤ pos 3) *ℤ pos 3) (b *ℤ pos 27) (over_children Three f) (ap (λ z. z *ℤ pos 3) (times_times a 3 3) ∙ times_times a 9 3) (ap (λ z. z *ℤ pos 3) (times_times b 3 3) ∙ times_times b 9 3)
    (digits_between ((a *ℤ pos 3) *ℤ pos 3) ((b *ℤ pos 3) *ℤ pos 3) (λ x. over_digits (λ y. over_digits (λ z. f (triple x y z)))) (λ x hx. digits_between (a *ℤ pos 3) (b *ℤ pos 3) (λ y. over_digits (λ z. f (triple x y z))) (λ y hy. digits_between a b (λ z. f (triple x y z)) (λ z hz. h (triple x y z) (record { shape = refl; first = hx; second = hy; third = hz })))))

-- one level up
pub one_up : (dim : Dim) (lo hi : ℤ) (n : ℕ) (f : List ℕ → ℤ) → ((k : List ℕ) → IsDigits dim k → WeighsBetween lo hi (weight dim n) (f k)) → WeighsBetween lo hi (weight dim (suc n)) (over_children dim f)
one_up dim lo hi n f h = subst (λ z. LiesBetween z (hi *ℤ pos (weight dim (suc n))) (over_children dim f)) (weight_up dim lo n) (subst (λ z. LiesBetween ((lo *ℤ pos (weight dim n)) *ℤ pos (children dim)) z (over_children dim f)) (weight_up dim hi n) (children_between dim (lo *ℤ pos (weight dim n)) (hi *ℤ pos (weight dim n)) f h))

pub leaves_between : (t : Spacetree) (x : CellKey → ℤ) (lo hi : ℤ) → ((c : CellKey) → LiesBetween lo hi (x c)) → (n : ℕ) (c : CellKey) → WeighsBetween lo hi (weight t.dim n) (leaf_sum t x n c)
leaves_between t x lo hi b zero c = weighed lo hi (x c) (weight t.dim zero) (b c)
leaves_between t x lo hi b (suc n) c = elim (is_refined t c) as (λ r. is_refined t c ≡ r → WeighsBetween lo hi (weight t.dim (suc n)) (leaf_sum t x (suc n) c)) [
  | true ↦ λ h. subst (WeighsBetween lo hi (weight t.dim (suc n))) (sym (sum_refined t x n c h)) (one_up t.dim lo hi n _ (λ k d. leaves_between t x lo hi b n (child_of c k)))
  | false ↦ λ h. subst (WeighsBetween lo hi (weight t.dim (suc n))) (sym (sum_plain t x (suc n) c h)) (weighed lo hi (x c) (weight t.dim (suc n)) (b c))
] refl

pub means_are_between : MeansAreBetween
means_are_between t x lo hi b n c = (let s = leaves_between t x lo hi b n c in (s, go (is_refined t c) s))
  where
    go : (r : Bool) → WeighsBetween lo hi (weight t.dim n) (leaf_sum t x n c) → LiesBetween lo hi (if r then floor_of (leaf_sum t x n c) (weight t.dim n) else x c)
    go true s = floor_is_between lo hi (leaf_sum t x n c) (weight t.dim n) (weight_positive t.dim n) s
    go false s = b c

-- a weight that the engine serves
pub weight_most : (dim : Dim) (levels : ℕ) → levels ≤ 12 → weight dim levels ≤ 150094635296999121
weight_most Two levels h = omega (arith, let most : 9 ^ levels ≤ 9 ^ 12 = pow-le-pow_right (lit< tt) h in most)
weight_most Three levels h = pow-le-pow_right (lit< tt) h

-- how large a sum of numbers of 64 bits is
pub absolute : (w : ℕ) (z : ℤ) → WeighsBetween least_word greatest_word w z → unsigned_abs z ≤ 9223372036854775808 * w
absolute w (pos a) b = omega (arith, ints, b.high)
absolute w (negsuc a) b = omega (arith, ints, b.low)

pub sums_stay_below : SumsStayBelow
sums_stay_below dim n z h b = (let most = weight_most dim n h in let a = absolute (weight dim n) z b in omega (arith, most, a))

pub word_between : (z : ℤ) → FitsSigned w64 z → LiesBetween least_word greatest_word z
word_between (pos a) f = (let h : a < 9223372036854775808 = f.sfits in record { low = omega (arith, ints); high = omega (arith, ints, h) })
word_between (negsuc a) f = (let h : a < 9223372036854775808 = f.sfits in record { low = omega (arith, ints, h); high = omega (arith, ints) })

pub between_word : (z : ℤ) → LiesBetween least_word greatest_word z → FitsSigned w64 z
between_word (pos a) b = record { sfits = (let h : a < 9223372036854775808 = omega (arith, ints, b.high) in h) }
between_word (negsuc a) b = record { sfits = (let h : a < 9223372036854775808 = omega (arith, ints, b.low) in h) }

-- the components of a state whose numbers fit
like_fits : (s : State) (m : ℕ → ℤ) → ((i : ℕ) → FitsSigned w64 (m i)) → (i : ℕ) → FitsSigned w64 (value_at (state_like s m) i)
like_fits s m h i = ⊎_elim
    (λ l. subst (FitsSigned w64) (sym (like_at s m i l)) (h i))
    (λ l. subst (FitsSigned w64) (sym (beyond (state_like s m) i l)) (between_word (pos 0) (record { low = omega (arith, ints); high = omega (arith, ints) })))
    (cases_lt i (count_of (state_like s m)))

pub means_fit : MeansFit
means_fit t f h c i = go (is_refined t c)
  where
    each : (i : ℕ) → FitsSigned w64 (component_mean 12 t f c i)
    each i = between_word (component_mean 12 t f c i) (floor_is_between least_word greatest_word (leaf_sum t (component_of f i) (12 - c.level) c) (weight t.dim (12 - c.level)) (weight_positive t.dim (12 - c.level)) (leaves_between t (component_of f i) least_word greatest_word (λ q. word_between (component_of f i q) (h q i)) (12 - c.level) c))

    go : (r : Bool) → FitsSigned w64 (value_at (if r then state_like (centre_state (12 - c.level) t f c) (component_mean 12 t f c) else state_at f c) i)
    go true = like_fits (centre_state (12 - c.level) t f c) (component_mean 12 t f c) each i
    go false = h c i

-- how large a number of 64 bits is
pub word_size : (z : ℤ) → FitsSigned w64 z → unsigned_abs z ≤ 9223372036854775808
word_size (pos a) f = (let h : a < 9223372036854775808 = f.sfits in omega (arith, h))
word_size (negsuc a) f = (let h : a < 9223372036854775808 = f.sfits in omega (arith, h))
