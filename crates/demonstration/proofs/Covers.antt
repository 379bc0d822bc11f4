-- Sets of cells of a plane that lists cover, and how many cells they have.
use Rattle.std.proofs.Common.{◌≡◌, ℕ, zero, suc, ◌+◌, ◌*◌, ◌^◌, ◌<◌, ◌≤◌, true, List, [], ◌∷◌, ◌++◌, length, length-append, refl, ap, sym, ◌∙◌, subst, arith, inl, inr}
use Rattle.std.specs.FinSet as set
use Rattle.std.specs.Ordering.{eq_by_cmp}
use Rattle.std.proofs.lemmas.Bool.{cases_eq, or_left, or_right, or_cases, false≢true}
use Rattle.peano_keys.specs.declared.dim.Dim.TheVariants.{Two}
use Rattle.peano_keys.specs.declared.cell.CellKey.{CellKey}
use Rattle.peano_keys.specs.Cell.{IsCell, at, triple, key_cmp}
use Rattle.peano_keys.specs.Grid.{Cells, Spacetree}
use Rattle.spacetree.specs.Counts.{cells_for, cells_of}
use Rattle.spacetree.specs.Leaves.{is_among}
use Rattle.spacetree.proofs.CellMaps.{cells_total}
use Rattle.spacetree.proofs.CellSets.{itself, len_by_insert}
use Rattle.spacetree.proofs.CellCounts.{len_by_kept}
use Rattle.spacetree.proofs.Children.{key_from_parts}

-- ---- lists of cells

pub among_first : (xs ys : List CellKey) (q : CellKey) → is_among xs q ≡ true → is_among (xs ++ ys) q ≡ true
among_first [] ys q h = absurd (false≢true h)
among_first (x ∷ xs) ys q h = elim (or_cases (eq_by_cmp key_cmp q x) (is_among xs q) h) [
  | inl e ↦ or_left (eq_by_cmp key_cmp q x) (is_among (xs ++ ys) q) e
  | inr e ↦ or_right (eq_by_cmp key_cmp q x) (is_among (xs ++ ys) q) (among_first xs ys q e)
]

pub among_second : (xs ys : List CellKey) (q : CellKey) → is_among ys q ≡ true → is_among (xs ++ ys) q ≡ true
among_second [] ys q h = h
among_second (x ∷ xs) ys q h = or_right (eq_by_cmp key_cmp q x) (is_among (xs ++ ys) q) (among_second xs ys q h)

len_from_list : (ks : List CellKey) → set.len (set.from_list {R = key_cmp} ks) ≤ length ks
len_from_list [] = omega (arith, set.len-empty key_cmp)
len_from_list (k ∷ ks) = omega (arith, len_by_insert (set.from_list ks) k, len_from_list ks)

-- a set has no more cells than a list in which they all are
pub len_at_most : (s : Cells) (ks : List CellKey) → ((c : CellKey) → set.contains s c ≡ true → is_among ks c ≡ true) → set.len s ≤ length ks
len_at_most s ks all = omega (arith, len_by_kept s (set.from_list ks) (λ c h. set.contains-from_list cells_total ks c ∙ all c h), len_from_list ks)

-- and a grid of a plane so many by its refined ones
pub cells_at_most : (t : Spacetree) (n : ℕ) → t.dim ≡ Two → set.len t.refined ≤ n → cells_of t ≤ 1 + 9 * n
cells_at_most t n plane few =
    let same : cells_of t ≡ cells_for Two (set.len t.refined) = ap (λ d. cells_for d (set.len t.refined)) plane in
    omega (arith, same)

-- ---- rectangles of cells of a plane

abbrev key : ℕ → ℕ → ℕ → CellKey
key l x y = record { level = l; x = triple x y 0 }

-- `m` cells of a level on axis 1, from `b` on
unfoldable pub row : ℕ → ℕ → ℕ → ℕ → List CellKey
row l x b zero = []
row l x b (suc m) = key l x (b + m) ∷ row l x b m

-- `n` of these rows, from `a` on
unfoldable pub block : ℕ → ℕ → ℕ → ℕ → ℕ → List CellKey
block l a b m zero = []
block l a b m (suc n) = row l (a + n) b m ++ block l a b m n

length_row : (l x b m : ℕ) → length (row l x b m) ≡ m
unfolding row
length_row l x b zero = refl
length_row l x b (suc m) = ap suc (length_row l x b m)

pub length_block : (l a b m n : ℕ) → length (block l a b m n) ≡ n * m
unfolding block
length_block l a b m zero = omega arith
length_block l a b m (suc n) =
    let e : suc n * m ≡ m + n * m = omega arith in
    length-append (row l (a + n) b m) (block l a b m n) ∙ (λ i. length_row l (a + n) b m i + length_block l a b m n i) ∙ sym e

among_row : (l x b m y : ℕ) → b ≤ y → y < b + m → is_among (row l x b m) (key l x y) ≡ true
unfolding row
among_row l x b zero y low high = absurd (omega arith)
among_row l x b (suc m) y low high = elim (cases_eq y (b + m)) [
  | inl e ↦ or_left (eq_by_cmp key_cmp (key l x y) (key l x (b + m))) (is_among (row l x b m) (key l x y)) (ap (λ z. eq_by_cmp key_cmp (key l x y) (key l x z)) (sym e) ∙ itself (key l x y))
  | inr apart ↦ or_right (eq_by_cmp key_cmp (key l x y) (key l x (b + m))) (is_among (row l x b m) (key l x y)) (among_row l x b m y low (omega (arith, apart)))
]

among_block : (l a b m n x y : ℕ) → a ≤ x → x < a + n → b ≤ y → y < b + m → is_among (block l a b m n) (key l x y) ≡ true
unfolding block
among_block l a b m zero x y left right low high = absurd (omega arith)
among_block l a b m (suc n) x y left right low high = elim (cases_eq x (a + n)) [
  | inl e ↦ among_first (row l (a + n) b m) (block l a b m n) (key l x y) (ap (λ z. is_among (row l z b m) (key l x y)) (sym e) ∙ among_row l x b m y low high)
  | inr apart ↦ among_second (row l (a + n) b m) (block l a b m n) (key l x y) (among_block l a b m n x y left (omega (arith, apart)) low high)
]

-- a cell of the plane is in the rectangle in which its coordinates are
pub covered : (l a b m n : ℕ) (c : CellKey) → IsCell Two c → c.level ≡ l → a ≤ at c 0 → at c 0 < a + n → b ≤ at c 1 → at c 1 < b + m → is_among (block l a b m n) c ≡ true
covered l a b m n c cell e left right low high =
    let third : at c 2 < 1 = cell.third in
    let same : c ≡ key l (at c 0) (at c 1) = key_from_parts c l (at c 0) (at c 1) 0 cell.shape e refl refl (omega arith) in
    ap (is_among (block l a b m n)) same ∙ among_block l a b m n (at c 0) (at c 1) left right low high

-- ---- all cells above a level

unfoldable pub above : ℕ → List CellKey
above zero = []
above (suc l) = block l 0 0 (3 ^ l) (3 ^ l) ++ above l

one_more_level : (l : ℕ) → length (above (suc l)) ≡ 3 ^ l * 3 ^ l + length (above l)
unfolding above
one_more_level l = length-append (block l 0 0 (3 ^ l) (3 ^ l)) (above l) ∙ ap (λ k. k + length (above l)) (length_block l 0 0 (3 ^ l) (3 ^ l))

no_level : length (above 0) ≡ 0
unfolding above
no_level = refl

pub length_above_3 : length (above 3) ≡ 91
length_above_3 = omega (arith, no_level, one_more_level 0, one_more_level 1, one_more_level 2)

pub length_above_5 : length (above 5) ≡ 7381
length_above_5 = omega (arith, length_above_3, one_more_level 3, one_more_level 4)

pub among_above : (k : ℕ) (c : CellKey) → IsCell Two c → c.level < k → is_among (above k) c ≡ true
unfolding above
among_above zero c cell h = absurd (omega arith)
among_above (suc l) c cell h = elim (cases_eq c.level l) [
  | inl e ↦
      let first : at c 0 < 3 ^ l = subst (λ (k : ℕ). at c 0 < 3 ^ k) e cell.first in
      let second : at c 1 < 3 ^ l = subst (λ (k : ℕ). at c 1 < 3 ^ k) e cell.second in
      among_first (block l 0 0 (3 ^ l) (3 ^ l)) (above l) c (covered l 0 0 (3 ^ l) (3 ^ l) c cell e (omega arith) (omega arith) (omega arith) (omega arith))
  | inr apart ↦ among_second (block l 0 0 (3 ^ l) (3 ^ l)) (above l) c (among_above l c cell (omega (arith, apart)))
]
