-- Sums along the curve.
use Rattle.std.proofs.Common.{◌≡◌, ℕ, ◌+◌, ◌-◌, ◌%◌, ◌==◌, ℤ, Bool, true, false, if◌then◌else◌, refl, ◌∙◌, arith}
use Rattle.std.specs.Prelude.{◌+ℤ◌}
use Rattle.std.proofs.lemmas.Int.{ints}
use Rattle.peano_keys.specs.declared.dim.Dim.{Dim}
use Rattle.peano_keys.specs.declared.dim.Dim.TheVariants.{Two, Three}
use Rattle.peano_keys.specs.declared.cell.CellKey.{CellKey}
use Rattle.peano_keys.specs.Dim.{children}
use Rattle.peano_keys.specs.Cell.{at, triple, child_of}
use Rattle.peano_keys.specs.Sums.{over_digits, over_children, over_first}
use Rattle.peano_curve.specs.declared.order.Direction.TheVariants.{Forward, Backward}
use Rattle.peano_curve.specs.Order.{nth_child}
use Rattle.stack_law.specs.Digits.{turned}
use Rattle.cell_sums.proofs.Sums.{digits_same}
use Rattle.cell_sums.proofs.SumLaws.{nine, twenty_seven}
use Rattle.mean_values.specs.Curves.{CurveSumsChildren}

-- digits turned round have the same sum
turned_sum : (s : ℕ) (h : ℕ → ℤ) → over_digits (λ t. h (turned s t)) ≡ over_digits h
unfolding over_digits
turned_sum s h = go (s % 2 == 0)
  where
    go : (b : Bool) → h (if b then 0 else 2 - 0) +ℤ (h (if b then 1 else 2 - 1) +ℤ h (if b then 2 else 2 - 2)) ≡ h 0 +ℤ (h 1 +ℤ h 2)
    go true = refl
    go false = omega (arith, ints)

forwards : (dim : Dim) (c : CellKey) (f : CellKey → ℤ) → over_first (children dim) (λ p. f (nth_child dim c p)) ≡ over_children dim (λ k. f (child_of c k))
unfolding over_children
forwards Two c f =
    nine (λ a b. f (child_of c (triple (turned (at c 1) a) (turned (at c 0 + turned (at c 1) a) b) 0)))
    ∙ digits_same _ _ (λ a ha. turned_sum (at c 0 + turned (at c 1) a) (λ y. f (child_of c (triple (turned (at c 1) a) y 0))))
    ∙ turned_sum (at c 1) (λ x. over_digits (λ y. f (child_of c (triple x y 0))))
forwards Three c f =
    twenty_seven (λ a b e. f (child_of c (triple (turned (at c 1 + at c 2) a) (turned (at c 0 + at c 2 + turned (at c 1 + at c 2) a) b) (turned (at c 0 + at c 1 + turned (at c 1 + at c 2) a + turned (at c 0 + at c 2 + turned (at c 1 + at c 2) a) b) e))))
    ∙ digits_same _ _ (λ a ha. let x : ℕ = turned (at c 1 + at c 2) a in digits_same _ _ (λ b hb. turned_sum (at c 0 + at c 1 + x + turned (at c 0 + at c 2 + x) b) (λ z. f (child_of c (triple x (turned (at c 0 + at c 2 + x) b) z)))) ∙ turned_sum (at c 0 + at c 2 + x) (λ y. over_digits (λ z. f (child_of c (triple x y z)))))
    ∙ turned_sum (at c 1 + at c 2) (λ x. over_digits (λ y. over_digits (λ z. f (child_of c (triple x y z)))))

turned_round : (dim : Dim) (g : ℕ → ℤ) → over_first (children dim) (λ p. g (children dim - 1 - p)) ≡ over_first (children dim) g
turned_round Two g = omega (arith, ints)
turned_round Three g = omega (arith, ints)

pub curve_sums_children : CurveSumsChildren
curve_sums_children Forward dim c f = forwards dim c f
curve_sums_children Backward dim c f = turned_round dim (λ p. f (nth_child dim c p)) ∙ forwards dim c f
