-- Leaves: a cell of the grid that is not refined.
use Rattle.std.proofs.Common.{◌+◌, ◌<◌, arith, ◌≡◌, ℕ, List, Bool, true, false, not, ◌&&◌, ◌==◌, slice_index, length, refl, ap, sym, ◌∙◌, eqb-true, inl, inr}
use Rattle.std.proofs.lemmas.Bool.{false≢true, cases_eq, or_left, or_right, or_cases}
use Rattle.peano_keys.specs.declared.cell.CellKey.{CellKey}
use Rattle.peano_keys.specs.Cell.{IsCell, parent_of, child_of}
use Rattle.peano_keys.specs.Grid.{Spacetree, IsGrid, is_refined, has_cell}
use Rattle.solver_api.specs.Step.{IsLeafOf}
use Rattle.spacetree.proofs.Children.{parent_of_child}

both_true : (a b : Bool) → a ≡ true → b ≡ false → (a && not b) ≡ true
both_true a b p q = rw (p, q) refl

second_false : (a b : Bool) → (a && not b) ≡ true → b ≡ false
second_false true true h = sym h
second_false true false h = refl
second_false false true h = absurd (false≢true h)
second_false false false h = refl

first_true : (a b : Bool) → (a && b) ≡ true → a ≡ true
first_true true b h = refl
first_true false b h = absurd (false≢true h)

pub leaf_from : (t : Spacetree) (c : CellKey) → IsCell t.dim c → has_cell t c ≡ true → is_refined t c ≡ false → IsLeafOf t c
leaf_from t c h there apart = record { cell = h; leaf = both_true (has_cell t c) (is_refined t c) there apart }

pub unrefined : (t : Spacetree) (c : CellKey) → IsLeafOf t c → is_refined t c ≡ false
unrefined t c h = second_false (has_cell t c) (is_refined t c) h.leaf

pub leaf_there : (t : Spacetree) (c : CellKey) → IsLeafOf t c → has_cell t c ≡ true
leaf_there t c h = first_true (has_cell t c) (not (is_refined t c)) h.leaf

pub not_leaf : (t : Spacetree) (c : CellKey) → is_refined t c ≡ true → IsLeafOf t c → ⊥
not_leaf t c h leaf = false≢true (sym (unrefined t c leaf) ∙ h)

-- below the root a cell of the grid has a refined parent
pub parent_refined : (t : Spacetree) (c : CellKey) → 0 < c.level → has_cell t c ≡ true → is_refined t (parent_of c) ≡ true
parent_refined t c h there = elim (or_cases (c.level == 0) (is_refined t (parent_of c)) there) [ inl e ↦ absurd (omega (arith, eqb-true c.level 0 e)) | inr e ↦ e ]

-- a refined cell is one of the grid
pub refined_there : (depth : ℕ) (t : Spacetree) (c : CellKey) → IsGrid depth t → is_refined t c ≡ true → has_cell t c ≡ true
refined_there depth t c grid refined = elim (cases_eq c.level 0) [
  | inl top ↦ or_left (c.level == 0) (is_refined t (parent_of c)) (ap (λ l. l == 0) top)
  | inr apart ↦ or_right (c.level == 0) (is_refined t (parent_of c)) (grid.parents c refined (omega (arith, apart)))
]

-- a child of a refined cell is one of the grid
pub child_there : (t : Spacetree) (p : CellKey) (k : List ℕ) → length p.x ≡ 3 → slice_index k 0 < 3 → slice_index k 1 < 3 → slice_index k 2 < 3 → is_refined t p ≡ true → has_cell t (child_of p k) ≡ true
child_there t p k h a b d refined = or_right (p.level + 1 == 0) _ (ap (is_refined t) (parent_of_child p k h a b d) ∙ refined)
