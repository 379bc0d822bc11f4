-- What a child sees across a face, from its anchor and its parent's side.
use Rattle.std.proofs.Common.{◌≡◌, ℕ, zero, suc, ◌-◌, ◌<◌, ◌≤◌, Bool, true, false, cond, List, Option, Some, refl, sym, ap, ◌∙◌, subst, arith, ⊎_elim}
use Rattle.std.specs.Prelude.{slice_index_or}
use Rattle.std.proofs.lemmas.Bool.{false≢true}
use Rattle.peano_keys.specs.declared.dim.Dim.{Dim}
use Rattle.peano_keys.specs.declared.dim.Dim.TheVariants.{Two, Three}
use Rattle.peano_keys.specs.declared.cell.CellKey.{CellKey}
use Rattle.peano_keys.specs.declared.cell.Face.{Face}
use Rattle.peano_keys.specs.declared.vertex.VertexKey.{VertexKey}
use Rattle.peano_keys.specs.declared.side.Side.TheVariants.{Same, Coarse}
use Rattle.peano_keys.specs.Dim.{axes, corners}
use Rattle.peano_keys.specs.Cell.{IsCell, parent_of, neighbour_of}
use Rattle.peano_keys.specs.Vertex.{corner_of, adjacent_of, anchor_of, slot_from}
use Rattle.peano_keys.specs.Grid.{Spacetree, IsStored, is_refined, has_cell}
use Rattle.peano_keys.specs.Field.{States, state_at, value_of, covering_state, side_at, side_of}
use Rattle.peano_keys.specs.Laws.{opposite}
use Rattle.peano_keys.proofs.Anchors.{anchor_is_stored}
use Rattle.peano_records.specs.Slots.{VertexRecord, slot_at}
use Rattle.peano_records.specs.declared.view.Corner.{Corner}
use Rattle.peano_records.specs.declared.view.Corner.TheVariants.{Vertex, Hanging, Beyond}
use Rattle.hanging_nodes.specs.Sides.{coarsened, IsCornerOf, AreCornersOf}
use Rattle.hanging_nodes.proofs.OneGrid.{there_by_parent}
use Rattle.hanging_nodes.proofs.Anchors.{IsNeighbour, is_neighbour, anchor_below, neighbour_slot, anchor_tells}

is_false : (b : Bool) → (b ≡ true → ⊥) → b ≡ false
is_false true f = absurd (f refl)
is_false false f = refl

slot_below : (dim : Dim) (n : ℕ) → slot_from dim n < corners dim
slot_below dim n = by_dim dim
  where
    by_dim : (dim : Dim) → slot_from dim n < corners dim
    by_dim Two = omega arith
    by_dim Three = omega arith

module _ (t : Spacetree) (f : States) where
  covering_there : (k : ℕ) (c : CellKey) → has_cell t c ≡ true → covering_state k t f c ≡ state_at f c
  covering_there zero c h = refl
  covering_there (suc k) c h = ap (λ b. cond b (state_at f c) (covering_state k t f (parent_of c))) h

  covering_up : (k : ℕ) (c : CellKey) → 0 < k → has_cell t c ≡ false → covering_state k t f c ≡ covering_state (k - 1) t f (parent_of c)
  covering_up zero c l h = absurd (omega (arith, l))
  covering_up (suc k) c l h = ap (λ b. cond b (state_at f c) (covering_state k t f (parent_of c))) h ∙ (let e : k ≡ suc k - 1 = omega arith in ap (λ j. covering_state j t f (parent_of c)) e)

  value_leaf : (c : CellKey) → is_refined t c ≡ false → value_of t f c ≡ state_at f c
  value_leaf c h = rw h refl

  -- the parent's side where the neighbour is no cell
  coarse_above : (m : CellKey) (b : Bool) → has_cell t m ≡ b → is_refined t m ≡ false → Coarse (covering_state m.level t f m) ≡ coarsened (cond b (Same (value_of t f m)) (Coarse (covering_state m.level t f m)))
  coarse_above m true h leaf = ap Coarse (covering_there m.level m h ∙ sym (value_leaf m leaf))
  coarse_above m false h leaf = refl

  coarse_side : (q n : CellKey) (face : Face) → 0 < q.level → is_refined t (parent_of q) ≡ true → IsNeighbour t.dim q face n → has_cell t n ≡ false → side_at t f (Some n) ≡ coarsened (side_of t f (parent_of q) face)
  coarse_side q n face below refined a none =
      let up : 0 < n.level = omega (arith, below, a.level) in
      let leaf : is_refined t (parent_of n) ≡ false = sym (there_by_parent t n up) ∙ none in
      ⊎_elim
      (λ e. absurd (false≢true (sym leaf ∙ ap (is_refined t) e ∙ refined)))
      (λ e.
      ap (λ b. cond b (Same (value_of t f n)) (Coarse (covering_state n.level t f n))) none
      ∙ ap Coarse (covering_up n.level n up none)
      ∙ coarse_above (parent_of n) (has_cell t (parent_of n)) refl leaf
      ∙ sym (ap (λ (o : Option CellKey). coarsened (side_at t f o)) e))
      a.above

  same_side : (n : CellKey) → has_cell t n ≡ true → side_at t f (Some n) ≡ Same (value_of t f n)
  same_side n h = ap (λ b. cond b (Same (value_of t f n)) (Coarse (covering_state n.level t f n))) h

  not_stored : (v : VertexKey) (o : Corner) → ((s : VertexRecord) → o ≡ Vertex s → ⊥) → IsCornerOf t f v o → ¬ IsStored t v
  not_stored v (Vertex s) other is = absurd (other s refl)
  not_stored v (Hanging k) other is = is.1
  not_stored v Beyond other is = absurd is

module _ (t : Spacetree) (f : States) (q n : CellKey) (face : Face) (places : List Corner) (below : 1 ≤ q.level) (found : neighbour_of q face ≡ Some n) (corners_are : AreCornersOf t f q places) where
  abbrev anchor : Dim → VertexKey
  anchor d = corner_of q (anchor_of d q face)

  known : IsCell t.dim q → face.axis < axes t.dim → IsNeighbour t.dim q face n
  known cell axis = is_neighbour t.dim q n face cell (omega (arith, below)) axis found

  here : IsCell t.dim q → IsCornerOf t f (anchor t.dim) (slice_index_or places (anchor_of t.dim q face) Beyond)
  here cell = corners_are (anchor_of t.dim q face) (anchor_below t.dim q face)

  -- where the anchor is a vertex, the neighbour's slot there has its value
  abbrev Vertices : Dim → Type 0
  Vertices d = (s : VertexRecord) → IsCell d q → face.axis < axes d → slice_index_or places (anchor_of d q face) Beyond ≡ Vertex s → Same (slot_at s (slot_from d (anchor_of d n (opposite face)))).value ≡ side_of t f q face

  vertices : Vertices t.dim
  vertices s cell axis is =
      let a = known cell axis in
      let k : ℕ = slot_from t.dim (anchor_of t.dim n (opposite face)) in
      let is_here = subst (IsCornerOf t f (anchor t.dim)) is (here cell) in
      let there = anchor_tells t q n face cell a.cell axis found is_here.1 in
      let holds = is_here.2 k n (slot_below t.dim (anchor_of t.dim n (opposite face))) (ap (λ (w : VertexKey). adjacent_of t.dim w k) is_here.0 ∙ neighbour_slot t.dim q n face cell axis found a.cell) in
      sym (ap (side_at t f) found ∙ same_side t f n there ∙ ap Same (sym holds.value))

  pub across_vertex : (dim : Dim) → t.dim ≡ dim → Vertices dim
  across_vertex dim e = subst Vertices e vertices

  -- where it is none, the neighbour is no cell, and the parent's side tells
  abbrev Others : Dim → Type 0
  Others d = IsCell d q → face.axis < axes d → ((s : VertexRecord) → slice_index_or places (anchor_of d q face) Beyond ≡ Vertex s → ⊥) → coarsened (side_of t f (parent_of q) face) ≡ side_of t f q face

  others : is_refined t (parent_of q) ≡ true → Others t.dim
  others refined cell axis other =
      let a = known cell axis in
      let hangs = not_stored t f (anchor t.dim) (slice_index_or places (anchor_of t.dim q face) Beyond) other (here cell) in
      let mine : has_cell t q ≡ true = there_by_parent t q (omega (arith, below)) ∙ refined in
      let none = is_false (has_cell t n) (λ there. hangs (anchor_is_stored t q n face cell axis found mine there)) in
      sym (ap (side_at t f) found ∙ coarse_side t f q n face (omega (arith, below)) refined a none)

  pub across_other : is_refined t (parent_of q) ≡ true → (dim : Dim) → t.dim ≡ dim → Others dim
  across_other refined dim e = subst Others e (others refined)
