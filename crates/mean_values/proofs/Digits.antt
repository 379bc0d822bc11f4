-- The digits of a cell in its parent.
use Rattle.std.proofs.Common.{◌≡◌, ℕ, ◌%◌, ◌<◌, List, [], ◌∷◌, length, slice_index, refl, sym, ◌∙◌, arith}
use Rattle.peano_keys.specs.declared.dim.Dim.{Dim}
use Rattle.peano_keys.specs.declared.dim.Dim.TheVariants.{Two, Three}
use Rattle.peano_keys.specs.declared.cell.CellKey.{CellKey}
use Rattle.peano_keys.specs.Cell.{IsCell, IsDigits, at, triple, parent_of, child_of}
use Rattle.spacetree.proofs.Children.{third_digit, key_from_parts}

three_items : (xs : List ℕ) → length xs ≡ 3 → xs ≡ triple (slice_index xs 0) (slice_index xs 1) (slice_index xs 2)
three_items [] h = absurd (omega arith)
three_items (a ∷ []) h = absurd (omega arith)
three_items (a ∷ b ∷ []) h = absurd (omega arith)
three_items (a ∷ b ∷ c ∷ []) h = refl
three_items (a ∷ b ∷ c ∷ d ∷ xs) h = absurd (omega arith)

-- the digits of a cell in its parent
abbrev pub digits_in : CellKey → List ℕ
digits_in c = triple (at c 0 % 3) (at c 1 % 3) (at c 2 % 3)

pub digits_are : (dim : Dim) (c : CellKey) → IsCell dim c → IsDigits dim (digits_in c)
digits_are Two c h = let third : at c 2 < 1 = h.third in record { shape = refl; first = omega arith; second = omega arith; third = omega arith }
digits_are Three c h = record { shape = refl; first = omega arith; second = omega arith; third = omega arith }

pub its_own_child : (c : CellKey) → length c.x ≡ 3 → 0 < c.level → child_of (parent_of c) (digits_in c) ≡ c
its_own_child c h above = sym (key_from_parts c _ _ _ _ h (omega arith) (omega arith) (omega arith) (omega arith))

-- a child tells its digits
pub digits_told : (dim : Dim) (c : CellKey) (k : List ℕ) → IsDigits dim k → digits_in (child_of c k) ≡ k
digits_told dim c k d =
    let a : at (child_of c k) 0 % 3 ≡ slice_index k 0 = omega (arith, d.first) in
    let b : at (child_of c k) 1 % 3 ≡ slice_index k 1 = omega (arith, d.second) in
    let e : at (child_of c k) 2 % 3 ≡ slice_index k 2 = omega (arith, third_digit dim k d) in
    (λ i. triple (a i) (b i) (e i)) ∙ sym (three_items k d.shape)
