-- The anchor of a cell across a face tells whether the neighbour is a cell, and the parents of both are one cell or neighbours.
use Rattle.std.proofs.Common.{◌≡◌, ℕ, zero, suc, ◌+◌, ◌-◌, ◌*◌, ◌/◌, ◌^◌, ◌<◌, ◌⊎◌, inl, inr, Bool, true, false, Some, refl, sym, ap, ◌∙◌, subst, arith, ⊎_elim}
use Rattle.peano_keys.specs.declared.dim.Dim.{Dim}
use Rattle.peano_keys.specs.declared.dim.Dim.TheVariants.{Two, Three}
use Rattle.peano_keys.specs.declared.cell.CellKey.{CellKey}
use Rattle.peano_keys.specs.declared.cell.Face.{Face}
use Rattle.peano_keys.specs.declared.vertex.VertexKey.{VertexKey}
use Rattle.peano_keys.specs.Dim.{axes, corners}
use Rattle.peano_keys.specs.Cell.{IsCell, at, triple, parent_of, neighbour_of}
use Rattle.peano_keys.specs.Vertex.{Touches, corner_of, adjacent_of, slot_from, anchor_of}
use Rattle.peano_keys.specs.Grid.{Spacetree, IsStored, has_cell}
use Rattle.peano_keys.specs.Field.{face_on}
use Rattle.peano_keys.specs.Laws.{opposite}
use Rattle.peano_keys.proofs.Bits.{number_below}
use Rattle.peano_keys.proofs.Positions.{cell_stands_in_slot}
use Rattle.peano_keys.proofs.Faces.{Next, with_x, placed, neighbour_next, next_neighbour}
use Rattle.peano_keys.proofs.Anchors.{bit_small, neighbours_share_anchor}
use Rattle.hanging_nodes.proofs.OneGrid.{pow3_back}

next_below : (up : Bool) (e x y : ℕ) → x < e → Next up e x y → y < e
next_below true e x y h n = n.1
next_below false e x y h n = omega (arith, n)

-- the neighbour's place is the same third of the level above, or the next one
next_parent : (up : Bool) (e x y : ℕ) → Next up (3 * e) x y → (y / 3 ≡ x / 3) ⊎ Next up e (x / 3) (y / 3)
next_parent true e x y n = two (y / 3) (x / 3) (let a = n.0 in grind arith) (omega (arith, n.1))
  where
    two : (a b : ℕ) → (a ≡ b) ⊎ (a ≡ b + 1) → a < e → (a ≡ b) ⊎ ((a ≡ b + 1) × (a < e))
    two a b (inl h) l = inl h
    two a b (inr h) l = inr (h, l)
next_parent false e x y n = grind arith

-- what is known of the neighbour across a face
pub record IsNeighbour (dim : Dim) (c : CellKey) (f : Face) (n : CellKey) : Type 0 where
  pub cell : IsCell dim n
  pub level : n.level ≡ c.level
  pub above : (parent_of n ≡ parent_of c) ⊎ (neighbour_of (parent_of c) f ≡ Some (parent_of n))

module _ (dim : Dim) (c : CellKey) (up : Bool) (cell : IsCell dim c) (below : 0 < c.level) where
  abbrev Placed : ℕ → ℕ → Type 0
  Placed i y = IsNeighbour dim c (face_on i up) (with_x c (placed c i y))

  thirds : (i y : ℕ) → Next up (3 ^ c.level) (at c i) y → (y / 3 ≡ at c i / 3) ⊎ Next up (3 ^ (c.level - 1)) (at c i / 3) (y / 3)
  thirds i y next = next_parent up (3 ^ (c.level - 1)) (at c i) y (subst (λ e. Next up e (at c i) y) (pow3_back c.level below) next)

  first : (y : ℕ) → Next up (3 ^ c.level) (at c 0) y → Placed 0 y
  first y next = record {
    cell = record { shape = refl; level = cell.level; first = next_below up _ _ _ cell.first next; second = cell.second; third = cell.third };
    level = refl;
    above = ⊎_elim (λ e. inl (ap (λ a. record { level = c.level - 1; x = triple a (at c 1 / 3) (at c 2 / 3) }) e)) (λ e. inr (next_neighbour up 0 (parent_of c) (y / 3) refl e)) (thirds 0 y next);
  }

  second : (y : ℕ) → Next up (3 ^ c.level) (at c 1) y → Placed 1 y
  second y next = record {
    cell = record { shape = refl; level = cell.level; first = cell.first; second = next_below up _ _ _ cell.second next; third = cell.third };
    level = refl;
    above = ⊎_elim (λ e. inl (ap (λ a. record { level = c.level - 1; x = triple (at c 0 / 3) a (at c 2 / 3) }) e)) (λ e. inr (next_neighbour up 1 (parent_of c) (y / 3) refl e)) (thirds 1 y next);
  }

third : (c : CellKey) (up : Bool) → IsCell Three c → 0 < c.level → (y : ℕ) → Next up (3 ^ c.level) (at c 2) y → IsNeighbour Three c (face_on 2 up) (with_x c (placed c 2 y))
third c up cell below y next = record {
  cell = record { shape = refl; level = cell.level; first = cell.first; second = cell.second; third = next_below up _ _ _ cell.third next };
  level = refl;
  above = ⊎_elim (λ e. inl (ap (λ a. record { level = c.level - 1; x = triple (at c 0 / 3) (at c 1 / 3) a }) e)) (λ e. inr (next_neighbour up 2 (parent_of c) (y / 3) refl e)) (thirds Three c up cell below 2 y next);
}

neighbour_on : (dim : Dim) (c n : CellKey) (i : ℕ) (up : Bool) → IsCell dim c → 0 < c.level → i < axes dim → neighbour_of c (face_on i up) ≡ Some n → IsNeighbour dim c (face_on i up) n
neighbour_on dim c n zero up cell below axis h = let next = neighbour_next up 0 c n cell.shape h in subst (IsNeighbour dim c (face_on 0 up)) (sym next.2) (first dim c up cell below next.0 next.1)
neighbour_on dim c n (suc zero) up cell below axis h = let next = neighbour_next up 1 c n cell.shape h in subst (IsNeighbour dim c (face_on 1 up)) (sym next.2) (second dim c up cell below next.0 next.1)
neighbour_on Three c n (suc (suc zero)) up cell below axis h = let next = neighbour_next up 2 c n cell.shape h in subst (IsNeighbour Three c (face_on 2 up)) (sym next.2) (third c up cell below next.0 next.1)
neighbour_on Two c n (suc (suc zero)) up cell below axis h = absurd (omega (arith, axis))
neighbour_on Two c n (suc (suc (suc i))) up cell below axis h = absurd (omega (arith, axis))
neighbour_on Three c n (suc (suc (suc i))) up cell below axis h = absurd (omega (arith, axis))

pub is_neighbour : (dim : Dim) (c n : CellKey) (f : Face) → IsCell dim c → 0 < c.level → f.axis < axes dim → neighbour_of c f ≡ Some n → IsNeighbour dim c f n
is_neighbour dim c n f cell below axis h = neighbour_on dim c n f.axis f.high cell below axis h

pub anchor_below : (dim : Dim) (c : CellKey) (f : Face) → anchor_of dim c f < corners dim
anchor_below dim c f = number_below dim _ _ _ (bit_small _ f.high (at c 0)) (bit_small _ f.high (at c 1)) (bit_small _ f.high (at c 2))

-- a cell touches its corners
pub touches_corner : (dim : Dim) (c : CellKey) (n : ℕ) → Touches c (corner_of c n)
touches_corner dim c n = record { level = refl; first_low = omega arith; first_high = omega arith; second_low = omega arith; second_high = omega arith; third_low = omega arith; third_high = omega arith }

module _ (dim : Dim) (c n : CellKey) (f : Face) (cell : IsCell dim c) (axis : f.axis < axes dim) (found : neighbour_of c f ≡ Some n) where
  shared : corner_of c (anchor_of dim c f) ≡ corner_of n (anchor_of dim n (opposite f))
  shared = neighbours_share_anchor dim c n f cell axis found

  -- the slot of the neighbour at the anchor
  pub neighbour_slot : IsCell dim n → adjacent_of dim (corner_of c (anchor_of dim c f)) (slot_from dim (anchor_of dim n (opposite f))) ≡ Some n
  neighbour_slot there = ap (λ (w : VertexKey). adjacent_of dim w (slot_from dim (anchor_of dim n (opposite f)))) shared ∙ cell_stands_in_slot dim n (anchor_of dim n (opposite f)) there (anchor_below dim n (opposite f))

  pub neighbour_touches : Touches n (corner_of c (anchor_of dim c f))
  neighbour_touches = subst (Touches n) (sym shared) (touches_corner dim n (anchor_of dim n (opposite f)))

-- the anchor is stored exactly where the neighbour is a cell of the grid
pub anchor_tells : (t : Spacetree) (c n : CellKey) (f : Face) → IsCell t.dim c → IsCell t.dim n → f.axis < axes t.dim → neighbour_of c f ≡ Some n → IsStored t (corner_of c (anchor_of t.dim c f)) → has_cell t n ≡ true
anchor_tells t c n f cell there axis found stored = stored n there (neighbour_touches t.dim c n f cell axis found)
