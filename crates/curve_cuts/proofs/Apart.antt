-- Leaves of a grid share no position.
use Rattle.std.proofs.Common.{◌≡◌, ⊎_elim, ℕ, zero, suc, ◌+◌, ◌-◌, ◌/◌, ◌^◌, ◌<◌, ◌≤◌, true, arith, sym, ap, ◌∙◌}
use Rattle.std.proofs.lemmas.Bool.{false≢true, cases_eq}
use Rattle.peano_keys.specs.declared.cell.CellKey.{CellKey}
use Rattle.peano_keys.specs.Cell.{IsCell, at, parent_of}
use Rattle.peano_keys.specs.Grid.{Spacetree, IsGrid, is_leaf, is_refined}
use Rattle.peano_keys.proofs.Positions.{same_cell}
use Rattle.peano_curve.specs.Order.{interval_of}
use Rattle.peano_curve.specs.Run.{Holds}
use Rattle.peano_curve.specs.Laws.{ancestor_of, IsIn}
use Rattle.curve_cuts.specs.Laws.{LeavesShareNone, LeafIsOwned, EnclaveIsAlone}
use Rattle.curve_cuts.specs.Enclave.{IsAtBorder}
use Rattle.curve_cuts.proofs.Cuts.{lt_or_le, owner_exists}
use Rattle.curve_cuts.proofs.Leaves.{leaf_level, leaf_plain, parent_refined}
use Rattle.curve_cuts.proofs.Nested.{nested, same_level}
use Rattle.curve_cuts.proofs.Tiling.{ancestor_again, parent_is}

own_coordinate : (x n l : ℕ) → l ≡ n → x / 3 ^ (n - l) ≡ x
own_coordinate x n l e =
    let none : n - l ≡ 0 = omega arith in
    ap (λ k. x / 3 ^ k) none ∙ omega arith

module _ (depth : ℕ) (t : Spacetree) (grid : IsGrid depth t) where
  -- what stands above a refined cell is refined
  refined_above : (k l : ℕ) (q : CellKey) → l + k ≡ q.level → is_refined t q ≡ true → is_refined t (ancestor_of q l) ≡ true
  refined_above zero l q e refined =
      let level : l ≡ q.level = omega arith in
      let itself : ancestor_of q l ≡ q = same_cell q l _ _ _ (grid.cells q refined).shape level (own_coordinate (at q 0) q.level l level) (own_coordinate (at q 1) q.level l level) (own_coordinate (at q 2) q.level l level) in
      ap (is_refined t) itself ∙ refined
  refined_above (suc k) l q e refined =
      let pos : 0 < q.level = omega arith in
      let up = refined_above k l (parent_of q) (omega arith) (grid.parents q refined pos) in
      ap (is_refined t) (sym (ap (λ (r : CellKey). ancestor_of r l) (parent_is q pos) ∙ ancestor_again q (q.level - 1) l (omega arith) (omega arith))) ∙ up

  -- no leaf stands above another
  no_leaf_above : (a b : CellKey) → IsIn a b → a.level < b.level → is_leaf t a ≡ true → is_leaf t b ≡ true → ⊥
  no_leaf_above a b h below leaf_a leaf_b =
      let pos : 0 < b.level = omega (arith, below) in
      let up = refined_above (b.level - 1 - a.level) a.level (parent_of b) (omega (arith, below)) (parent_refined t.dim depth t grid b pos leaf_b) in
      let same : ancestor_of (parent_of b) a.level ≡ a = ap (λ (r : CellKey). ancestor_of r a.level) (parent_is b pos) ∙ ancestor_again b (b.level - 1) a.level (omega (arith, below)) (omega arith) ∙ h.ancestor in
      false≢true (sym (leaf_plain t.dim depth t grid a leaf_a) ∙ sym (ap (is_refined t) same) ∙ up)

  by_level : (a b : CellKey) (p : ℕ) → IsCell t.dim a → IsCell t.dim b → is_leaf t a ≡ true → is_leaf t b ≡ true → Holds (interval_of t.dim a depth) p → Holds (interval_of t.dim b depth) p → a.level ≤ b.level → a ≡ b
  by_level a b p ha hb leaf_a leaf_b one two le =
      let deep = leaf_level t.dim depth t grid b leaf_b in
      let is_in = nested t.dim depth a b ha hb le deep p one two in
      ⊎_elim
      (λ same. same_level t.dim depth a b ha hb le deep same is_in)
      (λ apart. absurd (no_leaf_above a b is_in (omega (arith, le, apart)) leaf_a leaf_b))
      (cases_eq a.level b.level)

pub leaves_share_none : LeavesShareNone
leaves_share_none depth t a b p grid ha hb leaf_a leaf_b one two = ⊎_elim
    (λ less. by_level depth t grid a b p ha hb leaf_a leaf_b one two (omega (arith, less)))
    (λ le. sym (by_level depth t grid b a p hb ha leaf_b leaf_a two one le))
    (lt_or_le a.level b.level)

pub leaf_is_owned : LeafIsOwned
leaf_is_owned k g c fits cell leaf =
    let r = owner_exists k c fits.cuts cell (leaf_level g.dim k.depth g fits.grid c leaf) in
    (r.0, record { cell = cell; leaf = leaf; owns = r.1 })

pub enclave_is_alone : EnclaveIsAlone
enclave_is_alone k g t s n c enclave below has = ⊎_elim
    (λ same. same)
    (λ apart. absurd (enclave.1 (n, below, IsAtBorder.shared (record { other = s; apart = apart; corner = has.corner }))))
    (cases_eq s t)
