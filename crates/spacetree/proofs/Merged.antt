-- What a cell that merges has in the next field: its value in the field of the new states.
use Rattle.std.proofs.Common.{◌≡◌, inl, inr, ℕ, zero, suc, ◌+◌, ◌-◌, ◌<◌, ◌==◌, pos, ◌*ℤ◌, Bool, true, false, List, refl, sym, ap, subst, ◌∙◌, arith, Some, unwrap_or}
use Rattle.std.proofs.lemmas.Bool.{cases_eq, or_left, or_right}
use Rattle.peano_keys.specs.declared.dim.Dim.{Dim}
use Rattle.peano_keys.specs.declared.cell.CellKey.{CellKey}
use Rattle.peano_keys.specs.declared.side.Mark.{Mark}
use Rattle.peano_keys.specs.declared.state.State.TheVariants.{Single}
use Rattle.peano_keys.specs.Cell.{IsCell, IsDigits, parent_of, child_of, centre_child, centre_digits}
use Rattle.peano_keys.specs.State.{value_at}
use Rattle.peano_keys.specs.Grid.{Spacetree, IsGrid, is_refined, has_cell}
use Rattle.peano_keys.specs.Field.{States, state_at, centre_state, state_like, component_of, value_of}
use Rattle.peano_keys.specs.Sums.{weight, cell_weight, leaf_sum, floor_of}
use Rattle.peano_keys.specs.Next.{Merges, IsNextGrid}
use Rattle.solver_api.specs.Step.{IsLeafOf, marks_of}
use Rattle.spacetree.specs.Laws.{MergeTakesValue}
use Rattle.cell_sums.proofs.Sums.{over_same, sum_plain, sum_refined}
use Rattle.cell_sums.proofs.Means.{centre_plain, centre_refined, value_refined}
use Rattle.spacetree.specs.Leaves.{IsCellOf}
use Rattle.spacetree.proofs.Children.{child_cell, third_digit}
use Rattle.spacetree.proofs.Leaves.{child_there, leaf_from, refined_there}
use Rattle.spacetree.proofs.Steps.{source_here}
use Rattle.spacetree.proofs.NextGrids.{leaf_refined, stays_if_child}
use Rattle.spacetree.proofs.Values.{centre_is_digits}

false_if : (b : Bool) → (b ≡ true → ⊥) → b ≡ false
false_if true h = absurd (h refl)
false_if false h = refl

-- a cell that merges is a leaf of the next grid
merged_leaf : (t new : Spacetree) (marks : CellKey → Mark) (c : CellKey) → IsGrid 12 t → IsNextGrid t marks new → Merges t marks c → IsLeafOf new c
merged_leaf t new marks c grid next merges =
    let cell : IsCell t.dim c = grid.cells c merges.refined in
    let has : has_cell new c ≡ true = elim (cases_eq c.level 0) [
      | inl top ↦ or_left (c.level == 0) (is_refined new (parent_of c)) (ap (λ l. l == 0) top)
      | inr deep ↦
          let pos : 0 < c.level = omega (arith, deep) in
          or_right (c.level == 0) (is_refined new (parent_of c)) ((next.refined (parent_of c)).1 (inr (grid.parents c merges.refined pos, stays_if_child t marks c cell pos (λ both. leaf_refined t c merges.refined both.0))))
    ] in
    leaf_from new c (subst (λ (d : Dim). IsCell d c) (sym next.dim) cell) has (false_if (is_refined new c) (λ e. elim ((next.refined c).0 e) [ inl split ↦ leaf_refined t c merges.refined split.leaf | inr kept ↦ kept.1 merges ]))

-- fields that agree on the leaves of a grid give each refined cell the same value
module _ (t : Spacetree) (grid : IsGrid 12 t) (f g : States) (same : (q : CellKey) → IsLeafOf t q → state_at f q ≡ state_at g q) where
  no_more : (c : CellKey) → c.level + 0 ≡ 12 → is_refined t c ≡ false
  no_more c e = false_if (is_refined t c) (λ h. omega (arith, grid.levels c h, e))

  child_in : (c : CellKey) (k : List ℕ) → is_refined t c ≡ true → IsDigits t.dim k → IsCellOf t (child_of c k)
  child_in c k h d = (let cell = grid.cells c h in record { cell = child_cell t.dim c k cell (grid.levels c h) d; there = child_there t c k cell.shape d.first d.second (third_digit t.dim k d) h })

  same_sum : (i n : ℕ) (c : CellKey) → IsCellOf t c → c.level + n ≡ 12 → leaf_sum t (component_of f i) n c ≡ leaf_sum t (component_of g i) n c
  same_sum i zero c in_grid e = ap (λ s. value_at s i *ℤ pos (weight t.dim zero)) (same c (leaf_from t c in_grid.cell in_grid.there (no_more c e)))
  same_sum i (suc n) c in_grid e = elim (is_refined t c) as (λ b. is_refined t c ≡ b → leaf_sum t (component_of f i) (suc n) c ≡ leaf_sum t (component_of g i) (suc n) c) [
    | true ↦ λ h. sum_refined t (component_of f i) n c h ∙ over_same t.dim _ _ (λ k d. same_sum i n (child_of c k) (child_in c k h d) (omega (arith, e))) ∙ sym (sum_refined t (component_of g i) n c h)
    | false ↦ λ h. sum_plain t (component_of f i) (suc n) c h ∙ ap (λ s. value_at s i *ℤ pos (weight t.dim (suc n))) (same c (leaf_from t c in_grid.cell in_grid.there h)) ∙ sym (sum_plain t (component_of g i) (suc n) c h)
  ] refl

  same_centre : (n : ℕ) (c : CellKey) → IsCellOf t c → c.level + n ≡ 12 → centre_state n t f c ≡ centre_state n t g c
  same_centre zero c in_grid e = same c (leaf_from t c in_grid.cell in_grid.there (no_more c e))
  same_centre (suc n) c in_grid e = elim (is_refined t c) as (λ b. is_refined t c ≡ b → centre_state (suc n) t f c ≡ centre_state (suc n) t g c) [
    | true ↦ λ h. centre_refined n t f c h ∙ same_centre n (centre_child t.dim c) (child_in c (centre_digits t.dim) h (centre_is_digits t.dim)) (omega (arith, e)) ∙ sym (centre_refined n t g c h)
    | false ↦ λ h. centre_plain (suc n) t f c h ∙ same c (leaf_from t c in_grid.cell in_grid.there h) ∙ sym (centre_plain (suc n) t g c h)
  ] refl

  pub same_value : (c : CellKey) → is_refined t c ≡ true → value_of t f c ≡ value_of t g c
  same_value c h =
      let in_grid : IsCellOf t c = record { cell = grid.cells c h; there = refined_there 12 t c grid h } in
      let rest : c.level + (12 - c.level) ≡ 12 = omega (arith, grid.levels c h) in
      let centre = same_centre (12 - c.level) c in_grid rest in
      value_refined 12 t f c h
      ∙ (λ j. state_like (centre j) (λ i. floor_of (same_sum i (12 - c.level) c in_grid rest j) (cell_weight 12 t.dim c)))
      ∙ sym (value_refined 12 t g c h)

pub merge_takes_value : MergeTakesValue
merge_takes_value updated marked t f new after states grid has step c merges =
    let agree : (q : CellKey) → IsLeafOf t q → state_at step.states q ≡ state_at states q = λ q leaf. ap (λ o. unwrap_or o (Single (pos 0))) (step.made.leaves q leaf ∙ sym (has q leaf)) in
    step.leaves c (merged_leaf t new (marks_of marked t f) c grid step.grid merges)
    ∙ ap Some (ap (value_of t step.states) (source_here t c (refined_there 12 t c grid merges.refined)) ∙ same_value t grid step.states states agree c merges.refined)
