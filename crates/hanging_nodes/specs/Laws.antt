-- Laws of storedness and sides from above.
use Rattle.std.specs.Prelude.{◌≡◌, ◌↔◌, ℕ, ◌<◌, Bool, true, List, Some, length, Option}
use Rattle.peano_keys.specs.declared.dim.Dim.{Dim}
use Rattle.peano_keys.specs.declared.cell.CellKey.{CellKey}
use Rattle.peano_keys.specs.declared.cell.Face.{Face}
use Rattle.peano_keys.specs.declared.vertex.VertexKey.{VertexKey}
use Rattle.peano_keys.specs.Dim.{axes, corners}
use Rattle.peano_keys.specs.Cell.{IsCell, IsDigits, child_of, centre_child, neighbour_of}
use Rattle.peano_keys.specs.Vertex.{IsVertex, corner_of, anchor_of}
use Rattle.peano_keys.specs.Grid.{Spacetree, IsGrid, IsStored, is_refined, has_cell}
use Rattle.peano_keys.specs.Laws.{StandsAt}
use Rattle.peano_records.specs.declared.view.CellView.{CellView}
use Rattle.peano_records.specs.Slots.{VertexRecord}
use Rattle.peano_records.specs.AtRest.{IsBeforeAdapting}
use Rattle.hanging_nodes.specs.Above.{HoldsVertex, corner_above, DecidersRefined}
use Rattle.hanging_nodes.specs.Views.{AreOldAndNew, AreGrids, HasSlots, Shows}

-- the closed region of a cell holds each corner of each of its children
abbrev pub ChildCornersHeld : Type 0
ChildCornersHeld = (dim : Dim) (c : CellKey) (k : List ℕ) (n : ℕ) → IsDigits dim k
    → HoldsVertex c (corner_of (child_of c k) n)

-- in one grid a vertex of a cell's children is stored exactly where the corner above is, and each cell that decides is refined
abbrev pub StorednessFromAbove : Type 0
StorednessFromAbove = (depth : ℕ) (t : Spacetree) (c : CellKey) (v : VertexKey) → IsGrid depth t
    → IsCell t.dim c → IsVertex t.dim v → HoldsVertex c v
    → IsStored t v ↔ (IsStored t (corner_above c v) × DecidersRefined t c v)

-- where a vertex is stored in the next grid, the corner above is stored in the old one
abbrev pub NextStandsOnOld : Type 0
NextStandsOnOld = (depth : ℕ) (dim : Dim) (old new : Spacetree) (c : CellKey) (v : VertexKey)
    → AreOldAndNew depth dim old new → IsCell dim c → IsVertex dim v → HoldsVertex c v
    → IsStored new v → IsStored old (corner_above c v)

-- below the root, the anchor of a cell of the grid across a face is stored exactly where the neighbour is a cell of the grid
abbrev pub AnchorTellsNeighbour : Type 0
AnchorTellsNeighbour = (t : Spacetree) (c n : CellKey) (f : Face) → IsCell t.dim c → 0 < c.level
    → f.axis < axes t.dim → neighbour_of c f ≡ Some n → has_cell t c ≡ true
    → IsStored t (corner_of c (anchor_of t.dim c f)) ↔ (has_cell t n ≡ true)

-- the corners of the centre child of a refined cell are stored
abbrev pub CentreIsStored : Type 0
CentreIsStored = (t : Spacetree) (c : CellKey) (n : ℕ) → IsCell t.dim c → is_refined t c ≡ true
    → IsStored t (corner_of (centre_child t.dim c) n)

-- each child of a cell has a slot at a corner of the centre child
abbrev pub SiblingsRoundCentre : Type 0
SiblingsRoundCentre = (dim : Dim) (c : CellKey) (k : List ℕ) → IsCell dim c → c.level < 12
    → IsDigits dim k
    → (n : ℕ) × (n < corners dim) × StandsAt dim (corner_of (centre_child dim c) n) (child_of c k)

-- a record before an adaptation has the slots that both grids ask for
abbrev pub RestIsShown : Type 0
RestIsShown = (dim : Dim) (old new : Spacetree) (after : Bool) (s : VertexRecord) → old.dim ≡ dim
    → IsVertex dim s.key → IsStored old s.key → IsBeforeAdapting old new s
    → HasSlots dim (Some old) new after s.key s

-- for all grids of a sweep and each cell of the domain there is a view of the cell that shows them
abbrev pub ViewsExist : Type 0
ViewsExist =
    (depth : ℕ) (dim : Dim) (old : Option Spacetree) (new : Spacetree) (after : Bool) (c : CellKey)
    → AreGrids depth dim old new after → IsCell dim c
    → (view : CellView) × (view.key ≡ c) × (length view.corners ≡ 8) × Shows dim old new after view
