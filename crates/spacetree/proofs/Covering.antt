-- A place at which a grid has no cell lies in one leaf, whose state the coarse side is.
use Rattle.std.proofs.Common.{◌≡◌, inl, inr, ℕ, zero, suc, ◌<◌, ◌≤◌, ◌==◌, ◌||◌, true, false, cond, refl, sym, ap, subst, ◌∙◌, arith}
use Rattle.std.proofs.lemmas.Bool.{cases_eq, cases_lt, or_parts}
use Rattle.peano_keys.specs.declared.cell.CellKey.{CellKey}
use Rattle.peano_keys.specs.declared.state.State.{State}
use Rattle.peano_keys.specs.declared.side.Side.TheVariants.{Same, Coarse}
use Rattle.peano_keys.specs.Cell.{IsCell, parent_of}
use Rattle.peano_keys.specs.Grid.{Spacetree, IsGrid, is_refined, has_cell}
use Rattle.peano_keys.specs.Field.{States, state_at, covering_state, value_of}
use Rattle.solver_api.specs.Step.{IsLeafOf}
use Rattle.spacetree.specs.Build.{ancestor_of}
use Rattle.spacetree.specs.Laws.{CoarseSideIsOfLeaf, IsLeafAbove}
use Rattle.spacetree.proofs.Children.{parent_cell}
use Rattle.spacetree.proofs.Leaves.{leaf_from, leaf_there, not_leaf, parent_refined}
use Rattle.spacetree.proofs.Openings.{ancestor_level}
use Rattle.spacetree.proofs.Values.{away_unrefined}

from_parent : (n : ℕ) (q : CellKey) → ancestor_of n (parent_of q) ≡ ancestor_of (suc n) q
from_parent zero q = refl
from_parent (suc n) q = ap parent_of (from_parent n q)

module _ (t : Spacetree) (f : States) where
  -- a state is that of a leaf so many levels above a place
  abbrev Covers : CellKey → State → Type 0
  Covers q s = (n : ℕ) × (n ≤ q.level) × IsLeafOf t (ancestor_of n q) × (s ≡ state_at f (ancestor_of n q))

  covered : (levels : ℕ) (q : CellKey) → IsCell t.dim q → is_refined t q ≡ false → q.level ≡ levels → Covers q (covering_state levels t f q)
  covered zero q cell apart e = (0, omega arith, leaf_from t q cell (ap (λ l. (l == 0) || is_refined t (parent_of q)) e) apart, refl)
  covered (suc levels) q cell apart e =
      elim (has_cell t q) as (λ b. has_cell t q ≡ b → Covers q (cond b (state_at f q) (covering_state levels t f (parent_of q)))) [
        | true ↦ λ there. (0, omega arith, leaf_from t q cell there apart, refl)
        | false ↦ λ away.
            let up = covered levels (parent_of q) (parent_cell t.dim q cell (omega (arith, e))) (or_parts (q.level == 0) (is_refined t (parent_of q)) away).1 (omega (arith, e)) in
            let same = from_parent up.0 q in
            (suc up.0, omega (arith, up.1, e), subst (IsLeafOf t) same up.2, up.3 ∙ ap (state_at f) same)
      ] refl

module _ (t : Spacetree) (grid : IsGrid 12 t) (q : CellKey) where
  -- what lies above a leaf is refined
  refined_beyond : (n m : ℕ) → n < m → m ≤ q.level → IsLeafOf t (ancestor_of n q) → is_refined t (ancestor_of m q) ≡ true
  refined_beyond n zero below h leaf = absurd (omega (arith, below))
  refined_beyond n (suc m) below h leaf =
      let level = ancestor_level m q in
      let deep : 0 < (ancestor_of m q).level = omega (arith, level, h) in
      elim (cases_eq n m) [
        | inl e ↦ parent_refined t (ancestor_of m q) deep (leaf_there t (ancestor_of m q) (subst (λ i. IsLeafOf t (ancestor_of i q)) e leaf))
        | inr apart ↦ grid.parents (ancestor_of m q) (refined_beyond n m (omega (arith, below, apart)) (omega (arith, h)) leaf) deep
      ]

  not_above : (c d : CellKey) (a : IsLeafAbove t q c) (b : IsLeafAbove t q d) → a.above.0 < b.above.0 → ⊥
  not_above c d a b less = not_leaf t d (subst (λ (k : CellKey). is_refined t k ≡ true) b.above.2 (refined_beyond a.above.0 b.above.0 less b.above.1 (subst (IsLeafOf t) (sym a.above.2) a.leaf))) b.leaf

  one_above : (c d : CellKey) → IsLeafAbove t q c → IsLeafAbove t q d → d ≡ c
  one_above c d a b = elim (cases_eq a.above.0 b.above.0) [
    | inl e ↦ sym b.above.2 ∙ ap (λ i. ancestor_of i q) (sym e) ∙ a.above.2
    | inr apart ↦ elim (cases_lt a.above.0 b.above.0) [
      | inl less ↦ absurd (not_above c d a b less)
      | inr least ↦ absurd (not_above d c b a (omega (arith, least, apart)))
    ]
  ]

pub coarse_side_is_of_leaf : CoarseSideIsOfLeaf
coarse_side_is_of_leaf t f q grid cell away =
    let found = covered t f q.level q cell (away_unrefined t q grid away) refl in
    let above : IsLeafAbove t q (ancestor_of found.0 q) = record { leaf = found.2; above = (found.0, found.1, refl) } in (
      ancestor_of found.0 q,
      record { is = above; alone = λ d other. one_above t grid q (ancestor_of found.0 q) d above other },
      ap (λ b. cond b (Same (value_of t f q)) (Coarse (covering_state q.level t f q))) away ∙ ap Coarse found.3,
    )
