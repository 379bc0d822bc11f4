-- A grid is told by its leaves: above each of them its cells are refined, and below each refined cell is one of them.
use Rattle.std.proofs.Common.{◌≡◌, ℕ, zero, suc, ◌+◌, ◌-◌, ◌<◌, ◌≤◌, List, true, refl, ap, ◌∙◌, subst, arith, inl, inr}
use Rattle.std.specs.Cmp.{both_ways}
use Rattle.peano_keys.specs.declared.dim.Dim.{Dim}
use Rattle.peano_keys.specs.declared.dim.Dim.TheVariants.{Two, Three}
use Rattle.peano_keys.specs.declared.cell.CellKey.{CellKey}
use Rattle.peano_keys.specs.Cell.{IsDigits, parent_of, child_of, triple}
use Rattle.peano_keys.specs.Grid.{Spacetree, IsGrid, is_refined, has_cell}
use Rattle.solver_api.specs.Step.{IsLeafOf}
use Rattle.spacetree.specs.Build.{ancestor_of}
use Rattle.spacetree.specs.Laws.{OneGridOfLeaves}
use Rattle.spacetree.specs.Leaves.{ListsLeaves, is_among}
use Rattle.spacetree.proofs.Children.{child_cell, parent_of_child, third_digit}
use Rattle.spacetree.proofs.CountedSets.{false_by}
use Rattle.spacetree.proofs.Leaves.{child_there, leaf_from, leaf_there, parent_refined}
use Rattle.spacetree.proofs.Openings.{ancestor_level}
use Rattle.spacetree.proofs.SortedCells.{same_cells}
use Rattle.spacetree.proofs.Told.{true_told}
use Rattle.spacetree.proofs.Unique.{same_grid}

-- what lies above a cell of a grid is refined
pub refined_above : (depth : ℕ) (t : Spacetree) (q : CellKey) → IsGrid depth t → has_cell t q ≡ true → (n : ℕ) → n < q.level → is_refined t (ancestor_of (suc n) q) ≡ true
refined_above depth t q grid there zero h = parent_refined t q (omega (arith, h)) there
refined_above depth t q grid there (suc n) h =
    grid.parents (ancestor_of (suc n) q) (refined_above depth t q grid there n (omega (arith, h))) (let level = ancestor_level (suc n) q in omega (arith, level, h))

-- a leaf below a cell, so many levels and one more
record LeafBelow (t : Spacetree) (c : CellKey) : Type 0 where
  leaf : CellKey
  is : IsLeafOf t leaf
  levels : ℕ
  deep : levels < leaf.level
  above : ancestor_of (suc levels) leaf ≡ c

first_digits : (dim : Dim) → IsDigits dim (triple 0 0 0)
first_digits Two = record { shape = refl; first = omega arith; second = omega arith; third = omega arith }
first_digits Three = record { shape = refl; first = omega arith; second = omega arith; third = omega arith }

module _ (t : Spacetree) (grid : IsGrid 12 t) where
  leaf_below : (levels : ℕ) (c : CellKey) → is_refined t c ≡ true → 12 - c.level ≤ levels → LeafBelow t c
  leaf_below zero c refined room = absurd (omega (arith, room, grid.levels c refined))
  leaf_below (suc levels) c refined room =
      let k : List ℕ = triple 0 0 0 in
      let d = first_digits t.dim in
      let cell = grid.cells c refined in
      let child : CellKey = child_of c k in
      let up : parent_of child ≡ c = parent_of_child c k cell.shape d.first d.second (third_digit t.dim k d) in
      elim (true_told (is_refined t child)) [
        | inl more ↦
            let found = leaf_below levels child more (omega (arith, room, grid.levels c refined)) in
            let level = ancestor_level (suc found.levels) found.leaf in
            let same : (ancestor_of (suc found.levels) found.leaf).level ≡ c.level + 1 = ap (λ (q : CellKey). q.level) found.above in
            record { leaf = found.leaf; is = found.is; levels = suc found.levels; deep = omega (arith, level, same); above = ap parent_of found.above ∙ up }
        | inr last ↦ record {
          leaf = child;
          is = leaf_from t child (child_cell t.dim c k cell (grid.levels c refined) d) (child_there t c k cell.shape d.first d.second (third_digit t.dim k d) refined) (false_by (is_refined t child) last);
          levels = zero;
          deep = omega arith;
          above = up;
        }
      ]

-- a grid that has the leaves of another as its cells refines what that one does
pub refines_too : (depth : ℕ) (t u : Spacetree) → IsGrid 12 t → IsGrid depth u → ((q : CellKey) → IsLeafOf t q → has_cell u q ≡ true) → (c : CellKey) → is_refined t c ≡ true → is_refined u c ≡ true
refines_too depth t u grid other has c refined =
    let found = leaf_below t grid (12 - c.level) c refined (omega arith) in
    subst (λ (q : CellKey). is_refined u q ≡ true) found.above (refined_above depth u found.leaf other (has found.leaf found.is) found.levels found.deep)

pub one_grid_of_leaves : OneGridOfLeaves
one_grid_of_leaves t u cells dims first second lists others = same_grid t u dims (λ c. both_ways (is_refined t c) (is_refined u c)
    (refines_too 12 t u first second (λ q leaf. leaf_there u q ((others.members q).0 ((lists.members q).1 leaf))) c)
    (refines_too 12 u t second first (λ q leaf. leaf_there t q ((lists.members q).0 ((others.members q).1 leaf))) c))

-- the leaves of a grid make one list
pub one_list : (t : Spacetree) (ks js : List CellKey) → ListsLeaves t ks → ListsLeaves t js → ks ≡ js
one_list t ks js first second = same_cells ks js first.order second.order (λ q. both_ways (is_among ks q) (is_among js q)
    (λ h. (second.members q).1 ((first.members q).0 h))
    (λ h. (first.members q).1 ((second.members q).0 h)))

-- a grid of a depth is one of each greater depth
pub deeper : (depth most : ℕ) (t : Spacetree) → depth ≤ most → IsGrid depth t → IsGrid most t
deeper depth most t h grid = record { cells = grid.cells; levels = λ c e. omega (arith, h, grid.levels c e); parents = grid.parents }
