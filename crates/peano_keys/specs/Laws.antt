-- Laws of keys: slots, anchors, home corners, and the cells round a vertex.
use Rattle.std.specs.Prelude.{◌≡◌, ◌↔◌, ℕ, ◌<◌, true, not, Some}
use Rattle.peano_keys.specs.declared.dim.Dim.{Dim}
use Rattle.peano_keys.specs.declared.cell.CellKey.{CellKey}
use Rattle.peano_keys.specs.declared.cell.Face.{Face}
use Rattle.peano_keys.specs.declared.vertex.VertexKey.{VertexKey}
use Rattle.peano_keys.specs.Dim.{axes, corners}
use Rattle.peano_keys.specs.Cell.{IsCell, neighbour_of}
use Rattle.peano_keys.specs.Vertex.{IsVertex, Touches, corner_of, adjacent_of, slot_from, anchor_of, home_of}
use Rattle.peano_keys.specs.Grid.{Spacetree, has_cell, IsStored}

-- a cell stands in its slot of each of its corners
abbrev pub StandsInSlot : Type 0
StandsInSlot = (dim : Dim) (c : CellKey) (n : ℕ) → IsCell dim c → n < corners dim
    → adjacent_of dim (corner_of c n) (slot_from dim n) ≡ Some c

-- the same face as the neighbour sees it
abbrev pub opposite : Face → Face
opposite f = record { axis = f.axis; high = not f.high }

-- two face neighbours have one anchor
abbrev pub SharesAnchor : Type 0
SharesAnchor = (dim : Dim) (c n : CellKey) (f : Face) → IsCell dim c → f.axis < axes dim
    → neighbour_of c f ≡ Some n
    → corner_of c (anchor_of dim c f) ≡ corner_of n (anchor_of dim n (opposite f))

-- the home corner is stored wherever the cell is one of the grid
abbrev pub HomeIsStored : Type 0
HomeIsStored = (t : Spacetree) (c : CellKey) → IsCell t.dim c → has_cell t c ≡ true
    → IsStored t (corner_of c (home_of t.dim c))

-- the anchor is stored where the cell and the neighbour across the face are both cells of the grid
abbrev pub AnchorIsStored : Type 0
AnchorIsStored = (t : Spacetree) (c n : CellKey) (f : Face) → IsCell t.dim c → f.axis < axes t.dim
    → neighbour_of c f ≡ Some n → has_cell t c ≡ true → has_cell t n ≡ true
    → IsStored t (corner_of c (anchor_of t.dim c f))

-- a cell stands at one of the adjacent positions of a vertex
abbrev pub StandsAt : Dim → VertexKey → CellKey → Type 0
StandsAt dim v q = (n : ℕ) × (n < corners dim) × (adjacent_of dim v n ≡ Some q)

-- the cells that touch a vertex are those of its adjacent positions
abbrev pub TouchesFromPosition : Type 0
TouchesFromPosition = (dim : Dim) (v : VertexKey) (q : CellKey) → IsVertex dim v
    → (IsCell dim q × Touches q v) ↔ StandsAt dim v q
