-- Sums over children.
use Rattle.std.proofs.Common.{◌≡◌, ◌≢◌, ℕ, zero, suc, ◌*◌, ◌/◌, ◌^◌, ◌<◌, ◌≤◌, ℤ, pos, negsuc, ◌*ℤ◌, true, false, List, slice_index, refl, sym, ap, subst, ◌∙◌, arith, lit<, ◌-◌, ⊎_elim}
use Rattle.std.specs.Prelude.{◌+ℤ◌, neg_ℤ}
use Rattle.std.proofs.lemmas.Bool.{cases_lt}
use Rattle.std.proofs.lemmas.Int.{ints}
use Rattle.std.proofs.Math.Nat.{mul-div_cancel, mul-le-mul_right, pow-le-pow_right, pow-suc, div-mul-le_self, lt-div-mul-add}
use Rattle.peano_keys.specs.declared.dim.Dim.{Dim}
use Rattle.peano_keys.specs.declared.dim.Dim.TheVariants.{Two, Three}
use Rattle.peano_keys.specs.declared.cell.CellKey.{CellKey}
use Rattle.peano_keys.specs.Cell.{IsDigits, triple, child_of}
use Rattle.peano_keys.specs.Grid.{Spacetree, is_refined}
use Rattle.peano_keys.specs.Dim.{children}
use Rattle.peano_keys.specs.Sums.{over_digits, over_children, over_first, weight, leaf_sum, floor_of, mean_of}

pub digits_same : (f g : ℕ → ℤ) → ((a : ℕ) → a < 3 → f a ≡ g a) → over_digits f ≡ over_digits g
unfolding over_digits
digits_same f g e = (λ i. e 0 (omega arith) i +ℤ (e 1 (omega arith) i +ℤ e 2 (omega arith) i))

-- sums of equal numbers are equal
pub over_same : (dim : Dim) (f g : List ℕ → ℤ) → ((k : List ℕ) → IsDigits dim k → f k ≡ g k) → over_children dim f ≡ over_children dim g
unfolding over_children
over_same Two f g e = digits_same _ _ (λ a ha. digits_same _ _ (λ b hb. e (triple a b 0) (record { shape = refl; first = ha; second = hb; third = omega arith })))
over_same Three f g e = digits_same _ _ (λ a ha. digits_same _ _ (λ b hb. digits_same _ _ (λ c hc. e (triple a b c) (record { shape = refl; first = ha; second = hb; third = hc }))))

digits_constant : (z : ℤ) → over_digits (λ a. z) ≡ z *ℤ pos 3
unfolding over_digits
digits_constant z = omega (arith, ints)

pub neg_is : (n : ℕ) → 0 < n → neg_ℤ (pos n) ≡ negsuc (n - 1)
neg_is zero h = absurd (omega (arith, h))
neg_is (suc n) h = ap negsuc (omega arith)

pub times_times : (z : ℤ) (a b : ℕ) → (z *ℤ pos a) *ℤ pos b ≡ z *ℤ pos (a * b)
times_times (pos x) a b = ap pos (omega arith)
times_times (negsuc x) zero b =
    let none : suc x * 0 ≡ 0 = omega arith in
    let none_again : suc x * (0 * b) ≡ 0 = omega arith in
    ap (λ q. neg_ℤ (pos q) *ℤ pos b) none ∙ ap pos (let e : 0 * b ≡ 0 = omega arith in e) ∙ ap (λ q. neg_ℤ (pos q)) (sym none_again)
times_times (negsuc x) (suc a) b =
    let more : 0 < suc x * suc a = omega arith in
    ap (λ z. z *ℤ pos b) (neg_is (suc x * suc a) more) ∙ ap (λ q. neg_ℤ (pos q)) (let e : suc (suc x * suc a - 1) ≡ suc x * suc a = omega (arith, more) in ap (λ q. q * b) e ∙ (let f : suc x * suc a * b ≡ suc x * (suc a * b) = omega arith in f))

-- the sum of one number over all children
pub over_constant : (dim : Dim) (z : ℤ) → over_children dim (λ k. z) ≡ z *ℤ pos (children dim)
unfolding over_children
over_constant Two z = ap over_digits (λ i. λ (a : ℕ). digits_constant z i) ∙ digits_constant (z *ℤ pos 3) ∙ times_times z 3 3
over_constant Three z = ap over_digits (λ i. λ (a : ℕ). (ap over_digits (λ j. λ (b : ℕ). digits_constant z j) ∙ digits_constant (z *ℤ pos 3) ∙ times_times z 3 3) i) ∙ digits_constant (z *ℤ pos 9) ∙ times_times z 9 3

-- a number times a weight, shared among the children
pub weight_up : (dim : Dim) (x : ℤ) (n : ℕ) → (x *ℤ pos (weight dim n)) *ℤ pos (children dim) ≡ x *ℤ pos (weight dim (suc n))
weight_up dim x n = times_times x (weight dim n) (children dim) ∙ ap (λ m. x *ℤ pos m) (sym (pow-suc (children dim) n))

pub split_evenly : (dim : Dim) (x : ℤ) (n : ℕ) → over_children dim (λ k. x *ℤ pos (weight dim n)) ≡ x *ℤ pos (weight dim (suc n))
split_evenly dim x n = over_constant dim (x *ℤ pos (weight dim n)) ∙ weight_up dim x n

-- weights are positive
pub weight_positive : (dim : Dim) (n : ℕ) → 0 < weight dim n
weight_positive Two n = (let from_zero : 0 ≤ n = omega arith in let least : 9 ^ 0 ≤ 9 ^ n = pow-le-pow_right (lit< tt) from_zero in omega (arith, least))
weight_positive Three n = (let from_zero : 0 ≤ n = omega arith in let least : 27 ^ 0 ≤ 27 ^ n = pow-le-pow_right (lit< tt) from_zero in omega (arith, least))

-- the quotient between two multiples
pub quotient_is : (x a w : ℕ) → 0 < w → a * w ≤ x → x < suc a * w → x / w ≡ a
quotient_is x a w h low high = ⊎_elim
    (λ less. (let row : suc (x / w) * w ≤ a * w = mul-le-mul_right w (let l : suc (x / w) ≤ a = omega (arith, less) in l) in absurd (omega (arith, row, low, lt-div-mul-add {a = x} {b = w} h))))
    (λ more. ⊎_elim
    (λ less. (let row : suc a * w ≤ x / w * w = mul-le-mul_right w (let l : suc a ≤ x / w = omega (arith, less) in l) in absurd (omega (arith, row, high, div-mul-le_self x w))))
    (λ most. omega (arith, more, most))
    (cases_lt a (x / w)))
    (cases_lt (x / w) a)

-- a multiple of a weight, divided by it
pub floor_exact : (x : ℤ) (w : ℕ) → 0 < w → floor_of (x *ℤ pos w) w ≡ x
floor_exact (pos a) w h = ap pos (mul-div_cancel a h)
floor_exact (negsuc a) w h =
    let more : 0 < suc a * w = (let row : 1 * w ≤ suc a * w = mul-le-mul_right w (let l : 1 ≤ suc a = omega arith in l) in omega (arith, row, h)) in
    ap (λ z. floor_of z w) (neg_is (suc a * w) more) ∙ ap negsuc (quotient_is (suc a * w - 1) a w h (omega (arith, h)) (omega (arith, more)))

-- leaves
pub sum_plain : (t : Spacetree) (x : CellKey → ℤ) (n : ℕ) (c : CellKey) → is_refined t c ≡ false → leaf_sum t x n c ≡ x c *ℤ pos (weight t.dim n)
sum_plain t x zero c h = refl
sum_plain t x (suc n) c h = rw h refl

pub sum_refined : (t : Spacetree) (x : CellKey → ℤ) (n : ℕ) (c : CellKey) → is_refined t c ≡ true → leaf_sum t x (suc n) c ≡ over_children t.dim (λ k. leaf_sum t x n (child_of c k))
sum_refined t x n c h = rw h refl

pub mean_refined : (t : Spacetree) (x : CellKey → ℤ) (n : ℕ) (c : CellKey) → is_refined t c ≡ true → mean_of t x n c ≡ floor_of (leaf_sum t x n c) (weight t.dim n)
mean_refined t x n c h = rw h refl

pub mean_plain : (t : Spacetree) (x : CellKey → ℤ) (n : ℕ) (c : CellKey) → is_refined t c ≡ false → mean_of t x n c ≡ x c
mean_plain t x n c h = rw h refl

digits_add : (f g : ℕ → ℤ) → over_digits (λ a. f a +ℤ g a) ≡ over_digits f +ℤ over_digits g
unfolding over_digits
digits_add f g = omega (arith, ints)

-- the sum of sums over children
pub over_add : (dim : Dim) (f g : List ℕ → ℤ) → over_children dim (λ k. f k +ℤ g k) ≡ over_children dim f +ℤ over_children dim g
unfolding over_children
over_add Two f g = digits_same _ _ (λ a ha. digits_add (λ b. f (triple a b 0)) (λ b. g (triple a b 0))) ∙ digits_add (λ a. over_digits (λ b. f (triple a b 0))) (λ a. over_digits (λ b. g (triple a b 0)))
over_add Three f g =
    digits_same _ _ (λ a ha. digits_same _ _ (λ b hb. digits_add (λ c. f (triple a b c)) (λ c. g (triple a b c))) ∙ digits_add (λ b. over_digits (λ c. f (triple a b c))) (λ b. over_digits (λ c. g (triple a b c))))
    ∙ digits_add (λ a. over_digits (λ b. over_digits (λ c. f (triple a b c)))) (λ a. over_digits (λ b. over_digits (λ c. g (triple a b c))))

pub over_none : (dim : Dim) → over_children dim (λ k. pos 0) ≡ pos 0
over_none dim = over_constant dim (pos 0) ∙ ap pos (omega arith)

pub first_same : (n : ℕ) (f g : ℕ → ℤ) → ((s : ℕ) → f s ≡ g s) → over_first n f ≡ over_first n g
first_same zero f g e = refl
first_same (suc t) f g e = (let rest = first_same t f g e in λ i. e t i +ℤ rest i)

digits_one : (f g : ℕ → ℤ) (k : ℕ) (more : ℤ) → k < 3 → g k ≡ f k +ℤ more → ((a : ℕ) → a < 3 → a ≢ k → g a ≡ f a) → over_digits g ≡ over_digits f +ℤ more
unfolding over_digits
digits_one f g zero more h e others = (let b = others 1 (omega arith) (λ q. omega (arith, q)) in let c = others 2 (omega arith) (λ q. omega (arith, q)) in (λ i. e i +ℤ (b i +ℤ c i)) ∙ turn (f 0) (f 1) (f 2) more)
  where
    turn : (a b c d : ℤ) → (a +ℤ d) +ℤ (b +ℤ c) ≡ (a +ℤ (b +ℤ c)) +ℤ d
    turn a b c d = omega (arith, ints)
digits_one f g (suc zero) more h e others = (let b = others 0 (omega arith) (λ q. omega (arith, q)) in let c = others 2 (omega arith) (λ q. omega (arith, q)) in (λ i. b i +ℤ (e i +ℤ c i)) ∙ turn (f 0) (f 1) (f 2) more)
  where
    turn : (a b c d : ℤ) → a +ℤ ((b +ℤ d) +ℤ c) ≡ (a +ℤ (b +ℤ c)) +ℤ d
    turn a b c d = omega (arith, ints)
digits_one f g (suc (suc zero)) more h e others = (let b = others 0 (omega arith) (λ q. omega (arith, q)) in let c = others 1 (omega arith) (λ q. omega (arith, q)) in (λ i. b i +ℤ (c i +ℤ e i)) ∙ turn (f 0) (f 1) (f 2) more)
  where
    turn : (a b c d : ℤ) → a +ℤ (b +ℤ (c +ℤ d)) ≡ (a +ℤ (b +ℤ c)) +ℤ d
    turn a b c d = omega (arith, ints)
digits_one f g (suc (suc (suc k))) more h e others = absurd (omega (arith, h))

-- where numbers of children differ at one child, their sums differ by as much
pub over_one : (dim : Dim) (f g : List ℕ → ℤ) (a b c : ℕ) (more : ℤ) → IsDigits dim (triple a b c) → g (triple a b c) ≡ f (triple a b c) +ℤ more → ((k : List ℕ) → IsDigits dim k → k ≢ triple a b c → g k ≡ f k) → over_children dim g ≡ over_children dim f +ℤ more
unfolding over_children
over_one Two f g a b c more d e others =
    let none : c ≡ 0 = (let third : c < 1 = d.third in omega arith) in
    digits_one (λ x. over_digits (λ y. f (triple x y 0))) (λ x. over_digits (λ y. g (triple x y 0))) a more d.first
    (digits_one (λ y. f (triple a y 0)) (λ y. g (triple a y 0)) b more d.second (subst (λ z. g (triple a b z) ≡ f (triple a b z) +ℤ more) none e)
    (λ y hy ne. others (triple a y 0) (record { shape = refl; first = d.first; second = hy; third = omega arith }) (λ q. ne (ap (λ k. slice_index k 1) q))))
    (λ x hx ne. digits_same _ _ (λ y hy. others (triple x y 0) (record { shape = refl; first = hx; second = hy; third = omega arith }) (λ q. ne (ap (λ k. slice_index k 0) q))))
over_one Three f g a b c more d e others =
    digits_one (λ x. over_digits (λ y. over_digits (λ z. f (triple x y z)))) (λ x. over_digits (λ y. over_digits (λ z. g (triple x y z)))) a more d.first
    (digits_one (λ y. over_digits (λ z. f (triple a y z))) (λ y. over_digits (λ z. g (triple a y z))) b more d.second
    (digits_one (λ z. f (triple a b z)) (λ z. g (triple a b z)) c more d.third e
    (λ z hz ne. others (triple a b z) (record { shape = refl; first = d.first; second = d.second; third = hz }) (λ q. ne (ap (λ k. slice_index k 2) q))))
    (λ y hy ne. digits_same _ _ (λ z hz. others (triple a y z) (record { shape = refl; first = d.first; second = hy; third = hz }) (λ q. ne (ap (λ k. slice_index k 1) q)))))
    (λ x hx ne. digits_same _ _ (λ y hy. digits_same _ _ (λ z hz. others (triple x y z) (record { shape = refl; first = hx; second = hy; third = hz }) (λ q. ne (ap (λ k. slice_index k 0) q)))))
