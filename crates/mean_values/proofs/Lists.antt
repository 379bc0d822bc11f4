-- Lists of leaves, and of shared cells.
use Rattle.std.proofs.Common.{◌≡◌, ℕ, zero, suc, ◌+◌, ◌-◌, ◌%◌, ◌≤◌, ℤ, pos, ◌*ℤ◌, Bool, true, false, ◌||◌, if◌then◌else◌, List, [], ◌∷◌, inl, inr, ⊎_elim, ◌⊎◌, refl, sym, ap, subst, ◌∙◌, arith}
use Rattle.std.specs.Prelude.{◌+ℤ◌}
use Rattle.std.specs.Ordering.{eq_by_cmp}
use Rattle.std.proofs.lemmas.Int.{ints}
use Rattle.std.proofs.lemmas.Bool.{false≢true}
use Rattle.peano_keys.specs.declared.dim.Dim.{Dim}
use Rattle.peano_keys.specs.declared.cell.CellKey.{CellKey}
use Rattle.peano_keys.specs.Cell.{IsCell, IsDigits, at, parent_of, child_of, key_cmp}
use Rattle.peano_keys.specs.Grid.{Spacetree, IsGrid, is_refined, has_cell}
use Rattle.solver_api.specs.Step.{IsLeafOf}
use Rattle.spacetree.specs.Build.{ancestor_of, IsUnder}
use Rattle.spacetree.specs.Leaves.{is_among}
use Rattle.spacetree.proofs.CellSets.{same_key, itself}
use Rattle.spacetree.proofs.Children.{child_cell, parent_cell, parent_of_child, third_digit}
use Rattle.spacetree.proofs.Leaves.{child_there, leaf_from, leaf_there, unrefined, parent_refined}
use Rattle.spacetree.specs.Counts.{EachOnce}
use Rattle.peano_keys.specs.Sums.{weight, leaf_sum}
use Rattle.mean_values.specs.Lists.{list_sum, ListsLeavesUnder, LeavesMakeSum}
use Rattle.cell_sums.proofs.Sums.{over_same, over_add, over_none, over_one, sum_plain, sum_refined}
use Rattle.mean_values.proofs.NextSums.{false_by}
use Rattle.mean_values.proofs.Digits.{digits_in, digits_are, its_own_child, digits_told}
use Rattle.cell_sums.proofs.SumLaws.{shared_out}

pub or_left : (a b : Bool) → a ≡ true → (a || b) ≡ true
or_left a b h = rw h refl

pub or_after : (a b : Bool) → b ≡ true → (a || b) ≡ true
or_after true b h = refl
or_after false b h = h

pub or_one : (a b : Bool) → (a || b) ≡ true → (a ≡ true) ⊎ (b ≡ true)
or_one true b h = inl refl
or_one false b h = inr h

-- a number at one cell alone
abbrev single : CellKey → ℤ → CellKey → ℤ
single q v c = if eq_by_cmp key_cmp c q then v else pos 0

single_other : (q : CellKey) (v : ℤ) (c : CellKey) → eq_by_cmp key_cmp c q ≡ false → single q v c ≡ pos 0
single_other q v c h = rw h refl

single_there : (q : CellKey) (v : ℤ) → single q v q ≡ v
single_there q v = (let h = itself q in rw h refl)

none_weighs : (w : ℕ) → pos 0 *ℤ pos w ≡ pos 0
none_weighs w = ap pos (omega arith)

pub level_of : (m : CellKey) (j : ℕ) → (ancestor_of j m).level ≡ m.level - j
level_of m zero = omega arith
level_of m (suc j) = omega (arith, level_of m j)

pub ancestor_cell : (dim : Dim) (m : CellKey) (j : ℕ) → IsCell dim m → j ≤ m.level → IsCell dim (ancestor_of j m)
ancestor_cell dim m zero cell h = cell
ancestor_cell dim m (suc j) cell h = parent_cell dim (ancestor_of j m) (ancestor_cell dim m j cell (omega (arith, h))) (omega (arith, h, level_of m j))

-- sums of sums, and of equal numbers
sum_add : (t : Spacetree) (x y : CellKey → ℤ) (n : ℕ) (c : CellKey) → leaf_sum t (λ q. x q +ℤ y q) n c ≡ leaf_sum t x n c +ℤ leaf_sum t y n c
sum_add t x y zero c = shared_out (x c) (y c) (weight t.dim zero)
sum_add t x y (suc n) c = elim (is_refined t c) as (λ b. is_refined t c ≡ b → leaf_sum t (λ q. x q +ℤ y q) (suc n) c ≡ leaf_sum t x (suc n) c +ℤ leaf_sum t y (suc n) c) [
  | true ↦ λ h. sum_refined t (λ q. x q +ℤ y q) n c h ∙ over_same t.dim _ _ (λ k d. sum_add t x y n (child_of c k)) ∙ over_add t.dim (λ k. leaf_sum t x n (child_of c k)) (λ k. leaf_sum t y n (child_of c k)) ∙ (let p = sym (sum_refined t x n c h) in let q = sym (sum_refined t y n c h) in λ i. p i +ℤ q i)
  | false ↦ λ h. sum_plain t (λ q. x q +ℤ y q) (suc n) c h ∙ shared_out (x c) (y c) (weight t.dim (suc n)) ∙ (let p = sym (sum_plain t x (suc n) c h) in let q = sym (sum_plain t y (suc n) c h) in λ i. p i +ℤ q i)
] refl

sum_none : (t : Spacetree) (n : ℕ) (c : CellKey) → leaf_sum t (λ q. pos 0) n c ≡ pos 0
sum_none t zero c = none_weighs (weight t.dim zero)
sum_none t (suc n) c = elim (is_refined t c) as (λ b. is_refined t c ≡ b → leaf_sum t (λ q. pos 0) (suc n) c ≡ pos 0) [
  | true ↦ λ h. sum_refined t (λ q. pos 0) n c h ∙ over_same t.dim _ _ (λ k d. sum_none t n (child_of c k)) ∙ over_none t.dim
  | false ↦ λ h. sum_plain t (λ q. pos 0) (suc n) c h ∙ none_weighs (weight t.dim (suc n))
] refl

-- numbers on a list of cells, and none elsewhere
abbrev spread : (CellKey → ℤ) → List CellKey → CellKey → ℤ
spread x [] c = pos 0
spread x (q ∷ qs) c = single q (x q) c +ℤ spread x qs c

zero_then : (z : ℤ) → pos 0 +ℤ z ≡ z
zero_then z = omega (arith, ints)

then_zero : (z : ℤ) → z +ℤ pos 0 ≡ z
then_zero z = omega (arith, ints)

pub or_neither : (a b : Bool) → (a || b) ≡ false → (a ≡ false) × (b ≡ false)
or_neither true b h = absurd (false≢true (sym h))
or_neither false b h = (refl, h)

spread_away : (x : CellKey → ℤ) (qs : List CellKey) (c : CellKey) → is_among qs c ≡ false → spread x qs c ≡ pos 0
spread_away x [] c h = refl
spread_away x (q ∷ qs) c h = (let n = or_neither (eq_by_cmp key_cmp c q) (is_among qs c) h in let a = single_other q (x q) c n.0 in let b = spread_away x qs c n.1 in λ i. a i +ℤ b i)

spread_there : (x : CellKey → ℤ) (qs : List CellKey) (c : CellKey) → EachOnce qs → is_among qs c ≡ true → spread x qs c ≡ x c
spread_there x [] c once h = absurd (false≢true h)
spread_there x (q ∷ qs) c once h = elim (eq_by_cmp key_cmp c q) as (λ b. eq_by_cmp key_cmp c q ≡ b → spread x (q ∷ qs) c ≡ x c) [
  | true ↦ λ e. (let same : c ≡ q = same_key c q e in
      (let a : single q (x q) c ≡ x c = ap (single q (x q)) same ∙ single_there q (x q) ∙ ap x (sym same) in let b : spread x qs c ≡ pos 0 = spread_away x qs c (ap (is_among qs) same ∙ once.0) in λ i. a i +ℤ b i) ∙ then_zero (x c))
  | false ↦ λ e. (let left : is_among qs c ≡ true = ⊎_elim (λ f. absurd (false≢true (sym e ∙ f))) (λ f. f) (or_one (eq_by_cmp key_cmp c q) (is_among qs c) h) in
      (let a = single_other q (x q) c e in let b = spread_there x qs c once.1 left in λ i. a i +ℤ b i) ∙ zero_then (x c))
] refl

module _ (depth : ℕ) (t : Spacetree) (deep : depth ≤ 12) (grid : IsGrid depth t) where
  -- what lies below a child lies below its parent
  under_parent : (c : CellKey) (k : List ℕ) (q : CellKey) → IsCell t.dim c → IsDigits t.dim k → IsUnder (child_of c k) q → IsUnder c q
  under_parent c k q cell d u =
      let l : (ancestor_of u.0 q).level ≡ c.level + 1 = ap (λ r. r.level) u.2 in
      (suc u.0, omega (arith, l, level_of q u.0), ap parent_of u.2 ∙ parent_of_child c k cell.shape d.first d.second (third_digit t.dim k d))

  child_inside : (c : CellKey) (k : List ℕ) → IsCell t.dim c → is_refined t c ≡ true → IsDigits t.dim k → IsCell t.dim (child_of c k)
  child_inside c k cell h d = child_cell t.dim c k cell (omega (arith, grid.levels c h, deep)) d

  no_more : (c : CellKey) → c.level + 0 ≡ depth → is_refined t c ≡ false
  no_more c e = false_by (is_refined t c) (λ h. omega (arith, grid.levels c h, e))

  -- numbers that agree on the leaves below a cell have the same sum
  agree : (x y : CellKey → ℤ) (n : ℕ) (c : CellKey) → IsCell t.dim c → has_cell t c ≡ true → c.level + n ≡ depth → ((q : CellKey) → IsLeafOf t q → IsUnder c q → x q ≡ y q) → leaf_sum t x n c ≡ leaf_sum t y n c
  agree x y zero c cell there e same = ap (λ z. z *ℤ pos (weight t.dim zero)) (same c (leaf_from t c cell there (no_more c e)) (0, omega arith, refl))
  agree x y (suc n) c cell there e same = elim (is_refined t c) as (λ b. is_refined t c ≡ b → leaf_sum t x (suc n) c ≡ leaf_sum t y (suc n) c) [
    | true ↦ λ h. sum_refined t x n c h ∙ over_same t.dim _ _ (λ k d. agree x y n (child_of c k) (child_inside c k cell h d) (child_there t c k cell.shape d.first d.second (third_digit t.dim k d) h) (omega (arith, e)) (λ q leaf u. same q leaf (under_parent c k q cell d u))) ∙ sym (sum_refined t y n c h)
    | false ↦ λ h. sum_plain t x (suc n) c h ∙ ap (λ z. z *ℤ pos (weight t.dim (suc n))) (same c (leaf_from t c cell there h) (0, omega arith, refl)) ∙ sym (sum_plain t y (suc n) c h)
  ] refl

  module _ (q : CellKey) (leaf : IsLeafOf t q) (v : ℤ) where
    apart_single : (c : CellKey) → ¬ IsUnder c q → single q v c ≡ pos 0
    apart_single c apart = single_other q v c (false_by (eq_by_cmp key_cmp c q) (λ e. apart (0, omega arith, sym (same_key c q e))))

    -- a cell that is not above the leaf has nothing of it
    nothing : (n : ℕ) (c : CellKey) → IsCell t.dim c → ¬ IsUnder c q → leaf_sum t (single q v) n c ≡ pos 0
    nothing zero c cell apart = ap (λ z. z *ℤ pos (weight t.dim zero)) (apart_single c apart) ∙ none_weighs (weight t.dim zero)
    nothing (suc n) c cell apart = elim (is_refined t c) as (λ b. is_refined t c ≡ b → leaf_sum t (single q v) (suc n) c ≡ pos 0) [
      | true ↦ λ h. sum_refined t (single q v) n c h ∙ over_same t.dim _ _ (λ k d. nothing n (child_of c k) (child_inside c k cell h d) (λ u. apart (under_parent c k q cell d u))) ∙ over_none t.dim
      | false ↦ λ h. sum_plain t (single q v) (suc n) c h ∙ ap (λ z. z *ℤ pos (weight t.dim (suc n))) (apart_single c apart) ∙ none_weighs (weight t.dim (suc n))
    ] refl

    above_refined : (j : ℕ) → suc j ≤ q.level → is_refined t (ancestor_of (suc j) q) ≡ true
    above_refined zero h = parent_refined t q (omega (arith, h)) (leaf_there t q leaf)
    above_refined (suc j) h = grid.parents (ancestor_of (suc j) q) (above_refined j (omega (arith, h))) (omega (arith, h, level_of q (suc j)))

    abbrev whole : ℤ
    whole = v *ℤ pos (weight t.dim (depth - q.level))

    -- and one above it has it once
    once_above : (j n : ℕ) → j ≤ q.level → (ancestor_of j q).level + n ≡ depth → leaf_sum t (single q v) n (ancestor_of j q) ≡ whole
    once_above zero n h e = sum_plain t (single q v) n q (unrefined t q leaf) ∙ (let s = single_there q v in let l : n ≡ depth - q.level = omega (arith, e) in λ i. s i *ℤ pos (weight t.dim (l i)))
    once_above (suc j) zero h e = absurd (omega (arith, grid.levels (ancestor_of (suc j) q) (above_refined j h), e))
    once_above (suc j) (suc n) h e =
        let r : CellKey = ancestor_of j q in
        let c : CellKey = ancestor_of (suc j) q in
        let r_cell : IsCell t.dim r = ancestor_cell t.dim q j leaf.cell (omega (arith, h)) in
        let c_cell : IsCell t.dim c = ancestor_cell t.dim q (suc j) leaf.cell h in
        let refined : is_refined t c ≡ true = above_refined j h in
        let own : child_of c (digits_in r) ≡ r = its_own_child r r_cell.shape (omega (arith, h, level_of q j)) in
        sum_refined t (single q v) n c refined
        ∙ over_one t.dim (λ k. pos 0) (λ k. leaf_sum t (single q v) n (child_of c k)) (at r 0 % 3) (at r 1 % 3) (at r 2 % 3) whole (digits_are t.dim r r_cell)
        (ap (λ s. leaf_sum t (single q v) n s) own ∙ once_above j n (omega (arith, h)) (omega (arith, e, level_of q j, level_of q (suc j), h)) ∙ zero_left whole)
        (λ k d ne. nothing n (child_of c k) (child_inside c k c_cell refined d) (λ u.
        let l : (ancestor_of u.0 q).level ≡ c.level + 1 = ap (λ s. s.level) u.2 in
        let i : u.0 ≡ j = omega (arith, l, level_of q u.0, level_of q (suc j), u.1, h) in
        ne (sym (digits_told t.dim c k d) ∙ ap digits_in (sym u.2 ∙ ap (λ s. ancestor_of s q) i))))
        ∙ ap (λ z. z +ℤ whole) (over_none t.dim) ∙ sym (zero_left whole)
      where
        zero_left : (z : ℤ) → z ≡ pos 0 +ℤ z
        zero_left z = omega (arith, ints)

  -- a list of leaves below a cell
  list_weighs : (x : CellKey → ℤ) (n : ℕ) (c : CellKey) (qs : List CellKey) → c.level + n ≡ depth → ((q : CellKey) → is_among qs q ≡ true → IsLeafOf t q × IsUnder c q) → leaf_sum t (spread x qs) n c ≡ list_sum (λ q. x q *ℤ pos (weight t.dim (depth - q.level))) qs
  list_weighs x n c [] e all = sum_none t n c
  list_weighs x n c (q ∷ qs) e all =
      let here = all q (or_left (eq_by_cmp key_cmp q q) (is_among qs q) (itself q)) in
      let first : leaf_sum t (single q (x q)) n c ≡ x q *ℤ pos (weight t.dim (depth - q.level)) = subst (λ r. leaf_sum t (single q (x q)) n r ≡ x q *ℤ pos (weight t.dim (depth - q.level))) here.1.2 (once_above q here.0 (x q) here.1.0 n here.1.1 (ap (λ r. r.level + n) here.1.2 ∙ e)) in
      let rest = list_weighs x n c qs e (λ r h. all r (or_after (eq_by_cmp key_cmp r q) (is_among qs r) h)) in
      sum_add t (single q (x q)) (spread x qs) n c ∙ (λ i. first i +ℤ rest i)

  pub makes_sum : (x : CellKey → ℤ) (n : ℕ) (c : CellKey) (cells : List CellKey) → IsCell t.dim c → has_cell t c ≡ true → c.level + n ≡ depth → ListsLeavesUnder t c cells → leaf_sum t x n c ≡ list_sum (λ q. x q *ℤ pos (weight t.dim (depth - q.level))) cells
  makes_sum x n c cells cell there e lists =
      agree x (spread x cells) n c cell there e (λ q leaf u. sym (spread_there x cells q lists.once ((lists.members q).1 (leaf, u))))
      ∙ list_weighs x n c cells e (λ q h. (lists.members q).0 h)

pub leaves_make_sum : LeavesMakeSum
leaves_make_sum depth t x c cells deep grid cell there level lists = makes_sum depth t deep grid x (depth - c.level) c cells cell there (omega (arith, level)) lists
