-- Sides from above: what a child sees across its faces, from its own corners and its parent's sides.
use Rattle.std.specs.Prelude.{◌≡◌, ℕ, ◌<◌, true, List, slice_index_or}
use Rattle.peano_keys.specs.declared.cell.CellKey.{CellKey}
use Rattle.peano_keys.specs.declared.vertex.VertexKey.{VertexKey}
use Rattle.peano_keys.specs.declared.side.Side.{Side}
use Rattle.peano_keys.specs.declared.side.Side.TheVariants.{Edge, Same, Coarse}
use Rattle.peano_keys.specs.declared.side.Sides.{Sides}
use Rattle.peano_keys.specs.Dim.{corners}
use Rattle.peano_keys.specs.Cell.{parent_of}
use Rattle.peano_keys.specs.Vertex.{corner_of}
use Rattle.peano_keys.specs.Grid.{Spacetree, IsStored, is_refined}
use Rattle.peano_keys.specs.Field.{States, sides_of}
use Rattle.peano_records.specs.declared.view.Corner.{Corner}
use Rattle.peano_records.specs.declared.view.Corner.TheVariants.{Vertex, Hanging, Beyond}
use Rattle.peano_records.specs.AtRest.{SaysOfCells, HoldsCell}

-- a corner is a vertex exactly where it is stored in the grid, has its own key, and its slots have the statuses and values of the cells round it
abbrev pub IsCornerOf : Spacetree → States → VertexKey → Corner → Type 0
IsCornerOf t f w (Vertex s) = (s.key ≡ w) × IsStored t w × SaysOfCells t.dim s (HoldsCell t f)
IsCornerOf t f w (Hanging k) = (k ≡ w) × ¬ IsStored t w
IsCornerOf t f w Beyond = ⊥

-- eight places hold the corners of a cell, those in use first
abbrev pub AreCornersOf : Spacetree → States → CellKey → List Corner → Type 0
AreCornersOf t f c places = (n : ℕ) → n < corners t.dim
    → IsCornerOf t f (corner_of c n) (slice_index_or places n Beyond)

-- a child of a refined cell knows its corners and its parent's sides
pub record KnowsSides (t : Spacetree) (f : States) (child : CellKey) (above : Sides)
    (places : List Corner) : Type 0 where
  pub refined : is_refined t (parent_of child) ≡ true
  pub sides : above ≡ sides_of t f (parent_of child)
  pub corners : AreCornersOf t f child places

-- a side of the parent, as its child sees it across the same face where no cell of the child's level is there
abbrev pub coarsened : Side → Side
coarsened Edge = Edge
coarsened (Same v) = Coarse v
coarsened (Coarse v) = Coarse v
