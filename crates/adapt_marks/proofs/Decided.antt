-- What slots decide of the next grid.
use Rattle.std.proofs.Common.{◌≡◌, Bool, not, ◌&&◌, ℕ, ◌+◌, ◌*◌, ◌^◌, ◌<◌, true, false, refl, sym, ap, subst, ◌∙◌, arith, List, slice_index, Option, Some}
use Rattle.peano_keys.specs.declared.cell.CellKey.{CellKey}
use Rattle.peano_keys.specs.declared.dim.Dim.{Dim}
use Rattle.peano_keys.specs.declared.dim.Dim.TheVariants.{Two, Three}
use Rattle.peano_keys.specs.declared.vertex.VertexKey.{VertexKey}
use Rattle.peano_keys.specs.declared.side.Mark.{Mark}
use Rattle.peano_keys.specs.declared.side.Mark.TheVariants.{Refine, Coarsen}
use Rattle.peano_keys.specs.Dim.{corners}
use Rattle.peano_keys.specs.Cell.{IsCell, IsDigits, at, triple, parent_of, child_of, centre_child}
use Rattle.peano_keys.specs.Vertex.{bit_of, corner_of, home_of, slot_from, moved, cell_at, adjacent_of}
use Rattle.peano_keys.specs.Grid.{Spacetree, IsStored, is_refined, is_leaf, has_cell}
use Rattle.peano_keys.specs.Next.{Splits, Merges}
use Rattle.peano_keys.proofs.Positions.{moved_to, same_cell, cell_stands_in_slot}
use Rattle.peano_keys.proofs.Anchors.{bit_small, home_is_stored}
use Rattle.peano_keys.proofs.Bits.{number_below}
use Rattle.peano_records.specs.declared.view.Corner.{Corner}
use Rattle.peano_records.specs.declared.view.Corner.TheVariants.{Vertex, Hanging, Beyond}
use Rattle.peano_records.specs.declared.view.CellView.{CellView}
use Rattle.peano_records.specs.Slots.{VertexRecord, slot_at}
use Rattle.peano_records.specs.Tells.{corner_at}
use Rattle.hanging_nodes.proofs.OneGrid.{pow3_next, parent_is_cell, there_by_parent}
use Rattle.hanging_nodes.proofs.Anchors.{touches_corner}
use Rattle.hanging_nodes.proofs.TwoGrids.{leaf_of}
use Rattle.hanging_nodes.proofs.Told.{centre_is_stored, siblings_round_centre}
use Rattle.adapt_marks.specs.Views.{ShowsMarks, IsCentre, dim_shown}
use Rattle.adapt_marks.specs.Decisions.{IsLeafMarked, AllCoarsen, CornerCoarsens}
use Rattle.adapt_marks.proofs.Shown.{dim_is, stored_at, hangs_at, never_beyond, marked_from_leaf, leaf_from_marked}

-- each slot of a centre child's corners is that of a child of its parent
module _ (p : CellKey) (n j : ℕ) where
  abbrev digits : Dim → List ℕ
  digits Two = triple (bit_of n 0 + bit_of j 0) (bit_of n 1 + bit_of j 1) 0
  digits Three = triple (bit_of n 0 + bit_of j 0) (bit_of n 1 + bit_of j 1) (bit_of n 2 + bit_of j 2)

  digits_are : (dim : Dim) → IsDigits dim (digits dim)
  digits_are Two = record { shape = refl; first = omega arith; second = omega arith; third = omega arith }
  digits_are Three = record { shape = refl; first = omega arith; second = omega arith; third = omega arith }

  stands : (dim : Dim) → IsCell dim p → adjacent_of dim (corner_of (centre_child dim p) n) j ≡ Some (child_of p (digits dim))
  stands Two cell =
      let far : 3 ^ (p.level + 1) ≡ 3 * 3 ^ p.level = pow3_next p.level in
      let m0 = moved_to (3 * at p 0 + 1 + bit_of n 0) (bit_of j 0) (3 ^ (p.level + 1)) (3 * at p 0 + (bit_of n 0 + bit_of j 0)) (omega arith) (omega (arith, cell.first, far)) in
      let m1 = moved_to (3 * at p 1 + 1 + bit_of n 1) (bit_of j 1) (3 ^ (p.level + 1)) (3 * at p 1 + (bit_of n 1 + bit_of j 1)) (omega arith) (omega (arith, cell.second, far)) in
      let flat : 0 ≡ 3 * at p 2 + 0 = omega (arith, cell.third) in
      ap (λ (o : Option ℕ). cell_at (p.level + 1) o (moved (3 * at p 1 + 1 + bit_of n 1) (bit_of j 1) (3 ^ (p.level + 1))) (Some 0)) m0
      ∙ ap (λ (o : Option ℕ). cell_at (p.level + 1) (Some (3 * at p 0 + (bit_of n 0 + bit_of j 0))) o (Some 0)) m1
      ∙ ap (λ (z : ℕ). Some (record { level = p.level + 1; x = triple (3 * at p 0 + (bit_of n 0 + bit_of j 0)) (3 * at p 1 + (bit_of n 1 + bit_of j 1)) z })) flat
  stands Three cell =
      let far : 3 ^ (p.level + 1) ≡ 3 * 3 ^ p.level = pow3_next p.level in
      let m0 = moved_to (3 * at p 0 + 1 + bit_of n 0) (bit_of j 0) (3 ^ (p.level + 1)) (3 * at p 0 + (bit_of n 0 + bit_of j 0)) (omega arith) (omega (arith, cell.first, far)) in
      let m1 = moved_to (3 * at p 1 + 1 + bit_of n 1) (bit_of j 1) (3 ^ (p.level + 1)) (3 * at p 1 + (bit_of n 1 + bit_of j 1)) (omega arith) (omega (arith, cell.second, far)) in
      let m2 = moved_to (3 * at p 2 + 1 + bit_of n 2) (bit_of j 2) (3 ^ (p.level + 1)) (3 * at p 2 + (bit_of n 2 + bit_of j 2)) (omega arith) (omega (arith, cell.third, far)) in
      ap (λ (o : Option ℕ). cell_at (p.level + 1) o (moved (3 * at p 1 + 1 + bit_of n 1) (bit_of j 1) (3 ^ (p.level + 1))) (moved (3 * at p 2 + 1 + bit_of n 2) (bit_of j 2) (3 ^ (p.level + 1)))) m0
      ∙ ap (λ (o : Option ℕ). cell_at (p.level + 1) (Some (3 * at p 0 + (bit_of n 0 + bit_of j 0))) o (moved (3 * at p 2 + 1 + bit_of n 2) (bit_of j 2) (3 ^ (p.level + 1)))) m1
      ∙ ap (λ (o : Option ℕ). cell_at (p.level + 1) (Some (3 * at p 0 + (bit_of n 0 + bit_of j 0))) (Some (3 * at p 1 + (bit_of n 1 + bit_of j 1))) o) m2

some_corner : (dim : Dim) → 0 < corners dim
some_corner Two = omega arith
some_corner Three = omega arith

third_digit : (dim : Dim) (k : List ℕ) → IsDigits dim k → slice_index k 2 < 3
third_digit Two k h = omega (arith, h.third)
third_digit Three k h = h.third

-- a cell with a stored corner is one of the grid
there_by_corner : (g : Spacetree) (c : CellKey) (n : ℕ) → IsCell g.dim c → IsStored g (corner_of c n) → has_cell g c ≡ true
there_by_corner g c n cell stored = stored c cell (touches_corner g.dim c n)

-- a leaf is a cell of the grid
leaf_there : (g : Spacetree) (c : CellKey) → is_leaf g c ≡ true → has_cell g c ≡ true
leaf_there g c h = first_and (has_cell g c) (not (is_refined g c)) h
  where
    first_and : (a b : Bool) → (a && b) ≡ true → a ≡ true
    first_and true b h = refl
    first_and false b h = h

-- a child of a refined cell is one of the grid
child_there : (g : Spacetree) (p : CellKey) (k : List ℕ) → IsCell g.dim p → IsDigits g.dim k → is_refined g p ≡ true → has_cell g (child_of p k) ≡ true
child_there g p k cell digits refined =
    let third = third_digit g.dim k digits in
    let up : parent_of (child_of p k) ≡ p = same_cell p _ _ _ _ cell.shape (omega arith) (omega (arith, digits.first)) (omega (arith, digits.second)) (omega (arith, third)) in
    there_by_parent g (child_of p k) (omega arith) ∙ ap (is_refined g) up ∙ refined

module _ (g : Spacetree) (marks : CellKey → Mark) (view : CellView) (centre : IsCentre g.dim view.key) (shows : ShowsMarks g marks view) where
  abbrev up : CellKey
  up = parent_of view.key

  up_cell : IsCell g.dim up
  up_cell = parent_is_cell g.dim view.key shows.cell centre.below

  corner_is : (n : ℕ) → corner_of (centre_child g.dim up) n ≡ corner_of view.key n
  corner_is n = ap (λ c. corner_of c n) (sym centre.centre)

  -- a corner that tells of leaves to be coarsened is stored
  told_record : (n : ℕ) (o : Corner) → corner_at view n ≡ o → CornerCoarsens (corners g.dim) o → (s : VertexRecord) × (corner_at view n ≡ Vertex s) × AllCoarsen (corners g.dim) s
  told_record n (Vertex s) is h = (s, is, h)
  told_record n (Hanging k) is h = absurd h
  told_record n Beyond is h = absurd h

  merges_by_slots : ((n : ℕ) → n < corners g.dim → CornerCoarsens (corners g.dim) (corner_at view n)) → Merges g marks up
  merges_by_slots all = record { refined = refined; leaves = λ k digits. (child_leaf k digits).0; marked = λ k digits. (child_leaf k digits).1 }
    where
      refined : is_refined g up ≡ true
      refined =
          let r = told_record 0 (corner_at view 0) refl (all 0 (some_corner g.dim)) in
          sym (there_by_parent g view.key centre.below) ∙ there_by_corner g view.key 0 shows.cell (stored_at g marks view shows 0 r.0 (some_corner g.dim) r.1)

      child_leaf : (k : List ℕ) → IsDigits g.dim k → (is_leaf g (child_of up k) ≡ true) × (marks (child_of up k) ≡ Coarsen)
      child_leaf k digits =
          let near = siblings_round_centre g.dim up k up_cell (omega (arith, shows.cell.level, centre.below)) digits in
          let n : ℕ = near.0 in
          let j : ℕ = near.2.0 in
          let r = told_record n (corner_at view n) refl (all n near.1) in
          let at = subst (λ (w : VertexKey). adjacent_of g.dim w j ≡ Some (child_of up k)) (corner_is n) near.2.2 in
          leaf_from_marked g marks view shows n r.0 near.1 r.1 j (child_of up k) near.2.1 at Coarsen (stored_at g marks view shows n r.0 near.1 r.1) (r.2 j near.2.1) (λ plain. leaf_of g (child_of up k) (child_there g up k up_cell digits refined) plain)

  slots_by_merges : Merges g marks up → (n : ℕ) → n < corners g.dim → CornerCoarsens (corners g.dim) (corner_at view n)
  slots_by_merges m n below = by_corner (corner_at view n) refl
    where
      stored : IsStored g (corner_of view.key n)
      stored = subst (IsStored g) (corner_is n) (centre_is_stored g up n up_cell m.refined)

      by_corner : (o : Corner) → corner_at view n ≡ o → CornerCoarsens (corners g.dim) o
      by_corner (Vertex s) is = λ j inside.
          let k : List ℕ = digits up n j g.dim in
          let are = digits_are up n j g.dim in
          let at = subst (λ (w : VertexKey). adjacent_of g.dim w j ≡ Some (child_of up k)) (corner_is n) (stands up n j g.dim up_cell) in
          marked_from_leaf g marks view shows n s below is j (child_of up k) inside at Coarsen (m.leaves k are) (m.marked k are)
      by_corner (Hanging k) is = absurd (hangs_at g marks view shows n k below is stored)
      by_corner Beyond is = absurd (never_beyond g marks view shows n below is)

  module _ (count : ℕ) (counted : count ≡ corners (dim_shown view)) where
    same : count ≡ corners g.dim
    same = counted ∙ ap corners (dim_is g marks view shows)

    pub merges_if : ((n : ℕ) → n < count → CornerCoarsens count (corner_at view n)) → Merges g marks up
    merges_if all = merges_by_slots (subst (λ m. (n : ℕ) → n < m → CornerCoarsens m (corner_at view n)) same all)

    pub only_if_merges : Merges g marks up → (n : ℕ) → n < count → CornerCoarsens count (corner_at view n)
    only_if_merges m = subst (λ k. (n : ℕ) → n < k → CornerCoarsens k (corner_at view n)) (sym same) (slots_by_merges m)

-- the home corner decides on a split
module _ (g : Spacetree) (marks : CellKey → Mark) (view : CellView) (shows : ShowsMarks g marks view) (home : ℕ) (is_home : home ≡ home_of (dim_shown view) view.key) where
  home_here : home ≡ home_of g.dim view.key
  home_here = is_home ∙ ap (λ d. home_of d view.key) (dim_is g marks view shows)

  home_below : home < corners g.dim
  home_below = subst (λ m. m < corners g.dim) (sym home_here) (number_below g.dim _ _ _ (bit_small false false (at view.key 0)) (bit_small false false (at view.key 1)) (bit_small false false (at view.key 2)))

  slot_below : (dim : Dim) (n : ℕ) → slot_from dim n < corners dim
  slot_below Two n = omega arith
  slot_below Three n = omega arith

  stored_home : is_leaf g view.key ≡ true → IsStored g (corner_of view.key home)
  stored_home leaf = subst (λ m. IsStored g (corner_of view.key m)) (sym home_here) (home_is_stored g view.key shows.cell (leaf_there g view.key leaf))

  module _ (s : VertexRecord) (is : corner_at view home ≡ Vertex s) (slot : ℕ) (is_slot : slot ≡ slot_from (dim_shown view) home) where
    slot_here : slot ≡ slot_from g.dim home
    slot_here = is_slot ∙ ap (λ d. slot_from d home) (dim_is g marks view shows)

    inside : slot < corners g.dim
    inside = subst (λ m. m < corners g.dim) (sym slot_here) (slot_below g.dim home)

    at_home : adjacent_of g.dim (corner_of view.key home) slot ≡ Some view.key
    at_home = subst (λ m. adjacent_of g.dim (corner_of view.key home) m ≡ Some view.key) (sym slot_here) (cell_stands_in_slot g.dim view.key home shows.cell home_below)

    pub splits_if : IsLeafMarked Refine (slot_at s slot) → Splits g marks view.key
    splits_if h =
        let stored = stored_at g marks view shows home s home_below is in
        let r = leaf_from_marked g marks view shows home s home_below is slot view.key inside at_home Refine stored h (λ plain. leaf_of g view.key (there_by_corner g view.key home shows.cell stored) plain) in
        record { cell = shows.cell; leaf = r.0; marked = r.1 }

    pub only_if_splits : Splits g marks view.key → IsLeafMarked Refine (slot_at s slot)
    only_if_splits split = marked_from_leaf g marks view shows home s home_below is slot view.key inside at_home Refine split.leaf split.marked

  pub never_splits : ((s : VertexRecord) → corner_at view home ≡ Vertex s → ⊥) → Splits g marks view.key → ⊥
  never_splits other split = by_corner (corner_at view home) refl
    where
      by_corner : (o : Corner) → corner_at view home ≡ o → ⊥
      by_corner (Vertex s) is = other s is
      by_corner (Hanging k) is = hangs_at g marks view shows home k home_below is (stored_home split.leaf)
      by_corner Beyond is = never_beyond g marks view shows home home_below is
