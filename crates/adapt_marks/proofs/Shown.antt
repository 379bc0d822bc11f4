-- What a view that shows marks tells of each cell round it.
use Rattle.std.proofs.Common.{◌≡◌, ⊎_elim, ℕ, ◌<◌, ◌≤◌, true, false, refl, sym, ap, subst, ◌∙◌, arith, Some}
use Rattle.std.specs.Prelude.{◌≢◌}
use Rattle.peano_keys.specs.declared.dim.Dim.{Dim}
use Rattle.peano_keys.specs.declared.dim.Dim.TheVariants.{Two, Three}
use Rattle.peano_keys.specs.declared.cell.CellKey.{CellKey}
use Rattle.peano_keys.specs.declared.vertex.VertexKey.{VertexKey}
use Rattle.peano_keys.specs.declared.side.Mark.{Mark}
use Rattle.peano_keys.specs.Dim.{corners}
use Rattle.peano_keys.specs.Vertex.{corner_of, adjacent_of}
use Rattle.peano_keys.specs.Grid.{Spacetree, IsStored, is_refined, is_leaf}
use Rattle.peano_records.specs.declared.view.Corner.{Corner}
use Rattle.peano_records.specs.declared.view.Corner.TheVariants.{Vertex, Hanging, Beyond}
use Rattle.peano_records.specs.declared.view.CellView.{CellView}
use Rattle.peano_records.specs.Slots.{VertexRecord, slot_at}
use Rattle.peano_records.specs.Tells.{slot_tells, corner_at}
use Rattle.hanging_nodes.specs.Views.{IsShown}
use Rattle.hanging_nodes.proofs.TwoGrids.{slot_tells_old, leaf_not}
use Rattle.adapt_marks.specs.Views.{ShowsMarks, dim_by, dim_shown}
use Rattle.adapt_marks.specs.Decisions.{IsLeafMarked}

-- the fifth place tells the dimension
told : (d : Dim) (o : Corner) → (4 < corners d → o ≢ Beyond) → (corners d ≤ 4 → o ≡ Beyond) → dim_by o ≡ d
told Two o used unused = ap dim_by (unused (omega arith))
told Three (Vertex s) used unused = refl
told Three (Hanging k) used unused = refl
told Three Beyond used unused = absurd (used (omega arith) refl)

module _ (g : Spacetree) (marks : CellKey → Mark) (view : CellView) (shows : ShowsMarks g marks view) where
  -- at a corner that is shown
  at_corner : (n : ℕ) (o : Corner) → n < corners g.dim → corner_at view n ≡ o → IsShown g.dim (Some g) g false (corner_of view.key n) o
  at_corner n o below is = subst (IsShown g.dim (Some g) g false (corner_of view.key n)) is (shows.grid n below)

  pub dim_is : dim_shown view ≡ g.dim
  dim_is = told g.dim (corner_at view 4) (λ below is. at_corner 4 Beyond below is) (λ beyond. shows.beyond 4 beyond (omega arith))

  pub stored_at : (n : ℕ) (s : VertexRecord) → n < corners g.dim → corner_at view n ≡ Vertex s → IsStored g (corner_of view.key n)
  stored_at n s below is = ⊎_elim (λ h. h) (λ h. h) (at_corner n (Vertex s) below is).1.0

  pub hangs_at : (n : ℕ) (k : VertexKey) → n < corners g.dim → corner_at view n ≡ Hanging k → ¬ IsStored g (corner_of view.key n)
  hangs_at n k below is = (at_corner n (Hanging k) below is).1

  pub never_beyond : (n : ℕ) → n < corners g.dim → corner_at view n ≡ Beyond → ⊥
  never_beyond n below is = at_corner n Beyond below is

  module _ (n : ℕ) (s : VertexRecord) (below : n < corners g.dim) (is : corner_at view n ≡ Vertex s) (j : ℕ) (q : CellKey) (inside : j < corners g.dim) (at : adjacent_of g.dim (corner_of view.key n) j ≡ Some q) where
    own_at : adjacent_of g.dim s.key j ≡ Some q
    own_at = subst (λ (w : VertexKey). adjacent_of g.dim w j ≡ Some q) (sym (at_corner n (Vertex s) below is).0) at

    -- a slot tells whether its cell is refined
    pub slot_tells_cell : slot_tells false (slot_at s j) ≡ is_refined g q
    slot_tells_cell = slot_tells_old g g false q (slot_at s j) ((at_corner n (Vertex s) below is).1.1 (stored_at n s below is) j q inside own_at)

    -- and of a leaf it has the mark
    pub marked_from_leaf : (mark : Mark) → is_leaf g q ≡ true → marks q ≡ mark → IsLeafMarked mark (slot_at s j)
    marked_from_leaf mark leaf has = record { leaf = slot_tells_cell ∙ leaf_not g q leaf; marked = shows.marked n s below is j q inside own_at leaf ∙ has }

    pub leaf_from_marked : (mark : Mark) → IsStored g (corner_of view.key n) → IsLeafMarked mark (slot_at s j) → ((is_refined g q ≡ false) → is_leaf g q ≡ true) → (is_leaf g q ≡ true) × (marks q ≡ mark)
    leaf_from_marked mark stored h there =
        let leaf : is_leaf g q ≡ true = there (sym slot_tells_cell ∙ h.leaf) in
        (leaf, sym (shows.marked n s below is j q inside own_at leaf) ∙ h.marked)
