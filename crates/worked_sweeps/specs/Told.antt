-- What a slot tells before an adaptation.
use Rattle.std.specs.Prelude.{◌≡◌, ℕ, ◌<◌, ◌≤◌, Option, Some, None, slice_index_or}
use Rattle.peano_keys.specs.declared.cell.CellKey.{CellKey}
use Rattle.peano_keys.specs.declared.vertex.VertexKey.{VertexKey}
use Rattle.peano_keys.specs.Dim.{corners}
use Rattle.peano_keys.specs.Vertex.{adjacent_of}
use Rattle.peano_keys.specs.Grid.{Spacetree}
use Rattle.peano_records.specs.declared.slot.Slot.{Slot}
use Rattle.peano_records.specs.declared.slot.Status.TheVariants.{Outside}
use Rattle.peano_records.specs.declared.slot.Intent.TheVariants.{Stay}
use Rattle.peano_records.specs.declared.stored.Stored.{Stored}
use Rattle.peano_records.specs.AtRest.{HoldsIntent}
use Rattle.tree_automaton.specs.TreeLists.{TreeLists}

-- a slot of a cell has its status in a grid and the intent that leads to the next one; a slot of no cell intends nothing
abbrev pub IsPositionTold : Spacetree → Spacetree → Option CellKey → Slot → Type 0
IsPositionTold g next (Some c) s = HoldsIntent g next c s
IsPositionTold g next None s = (s.status ≡ Outside) × (s.intent ≡ Stay)

-- so does each slot of a position, and one of none intends nothing
pub record IsTold (g next : Spacetree) (v : VertexKey) (n : ℕ) (s : Slot) : Type 0 where
  pub position : n < corners g.dim → IsPositionTold g next (adjacent_of g.dim v n) s
  pub unused : corners g.dim ≤ n → s.intent ≡ Stay

-- the record at a place of a store's input
abbrev pub vertex_at : TreeLists → ℕ → Stored → Stored
vertex_at s k d = slice_index_or s.lanes.input k d
