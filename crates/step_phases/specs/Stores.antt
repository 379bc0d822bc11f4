-- The stores of the trees: what all slots of a tree's copies say.
use Rattle.std.specs.Prelude.{◌≡◌, ℕ, ◌<◌, ◌≤◌, None, length}
use Rattle.peano_keys.specs.declared.dim.Dim.{Dim}
use Rattle.peano_keys.specs.declared.cell.CellKey.{CellKey}
use Rattle.peano_keys.specs.declared.vertex.VertexKey.{VertexKey}
use Rattle.peano_keys.specs.Dim.{corners}
use Rattle.peano_keys.specs.Vertex.{corner_of, home_of, slot_from, adjacent_of}
use Rattle.peano_keys.specs.Grid.{Spacetree}
use Rattle.peano_records.specs.declared.slot.Slot.{Slot}
use Rattle.peano_records.specs.declared.slot.Intent.TheVariants.{Stay}
use Rattle.peano_records.specs.Slots.{VertexRecord, slot_at}
use Rattle.peano_records.specs.AtRest.{SaysOutside, SaysOfCells}
use Rattle.curve_cuts.specs.Cuts.{Cuts, HasVertex}

-- a tree's copy of each vertex; the copies that count are named by `HasVertex`
abbrev pub Store : Type 0
Store = VertexKey → VertexRecord

-- the stores of all trees
abbrev pub Stores : Type 0
Stores = ℕ → Store

-- a record of a vertex: slots outside the domain say so, those of cells say what is asked, and slots of no cell intend nothing
pub record Says (dim : Dim) (v : VertexKey) (P : CellKey → Slot → Type 0)
    (r : VertexRecord) : Type 0 where
  pub key : r.key ≡ v
  pub eight : length r.slots ≡ 8
  pub outside : SaysOutside dim r
  pub inside : SaysOfCells dim r P
  pub idle : (n : ℕ) → n < corners dim → adjacent_of dim r.key n ≡ None
      → (slot_at r n).intent ≡ Stay
  pub unused : (n : ℕ) → corners dim ≤ n → n < 8 → (slot_at r n).intent ≡ Stay

-- so in each copy of a tree
abbrev pub TreeSays : Cuts → Spacetree → ℕ → (CellKey → Slot → Type 0) → Store → Type 0
TreeSays k g t P store = (v : VertexKey) → HasVertex k g t v → Says k.dim v P (store v)

-- and of each tree; what is asked of a cell may depend on the tree
abbrev pub AllSay : Cuts → Spacetree → (ℕ → CellKey → Slot → Type 0) → Stores → Type 0
AllSay k g P stores = (t : ℕ) → TreeSays k g t (P t) (stores t)

-- a cell's slot at its home corner, in the copy of a tree
abbrev pub home_slot : Dim → Store → CellKey → Slot
home_slot dim store c =
    slot_at (store (corner_of c (home_of dim c))) (slot_from dim (home_of dim c))
