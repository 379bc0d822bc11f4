-- What a raising sweep does to the slots round a cell.
use Rattle.std.specs.Prelude.{◌≡◌, ℕ, ◌<◌, ◌≤◌, Option, Some, None, length}
use Rattle.peano_keys.specs.declared.cell.CellKey.{CellKey}
use Rattle.peano_keys.specs.declared.dim.Dim.{Dim}
use Rattle.peano_keys.specs.Dim.{corners}
use Rattle.peano_keys.specs.Vertex.{IsVertex, adjacent_of}
use Rattle.peano_keys.specs.Grid.{Spacetree}
use Rattle.peano_keys.specs.Field.{States, value_of}
use Rattle.peano_records.specs.declared.slot.Slot.{Slot}
use Rattle.peano_records.specs.declared.view.Corner.{Corner}
use Rattle.peano_records.specs.declared.view.Corner.TheVariants.{Vertex, Hanging, Beyond}
use Rattle.peano_records.specs.declared.view.CellView.{CellView}
use Rattle.peano_records.specs.Slots.{VertexRecord, slot_at}
use Rattle.peano_records.specs.Tells.{corner_at}
use Rattle.curve_cuts.specs.Cuts.{Cuts}
use Rattle.curve_cuts.specs.Keys.{cuts_of}
use Rattle.tree_automaton.specs.Promises.{StatusIn}
use Rattle.adapt_sweep.specs.declared.raise.Raise.{Raise}
use Rattle.adapt_sweep.specs.Own.{IsOwn}

-- what a tree is raised from: the grid, its field, the cuts between trees and the number of the tree
pub record Source : Type 0 where
  pub grid : Spacetree
  pub field : States
  pub cuts : Cuts
  pub tree : ℕ

-- what a visitor raises from
abbrev pub source_of : Raise → Source
source_of r =
    record { grid = r.grid.now; field = r.field.now; cuts = cuts_of r.keys.now; tree = r.tree }

-- the tree's own cells take their values from the field, and no other slot takes one
abbrev pub HasOwnValue : Source → Option CellKey → Slot → Slot → Type 0
HasOwnValue r None s t = t.value ≡ s.value
HasOwnValue r (Some c) s t = (IsOwn r.cuts r.tree c → t.value ≡ value_of r.grid r.field c)
    × (¬ IsOwn r.cuts r.tree c → t.value ≡ s.value)

-- the slot of a position takes its status from the grid, whoever owns the cell; nothing but status and value is changed
pub record IsRaisedSlot (r : Source) (position : Option CellKey) (s t : Slot) : Type 0 where
  pub status : StatusIn r.grid position t
  pub value : HasOwnValue r position s t
  pub others : t ≡ record s { status = t.status; value = t.value }

-- of a vertex record the slot of each position is raised, and no other
pub record IsRaisedRecord (r : Source) (s t : VertexRecord) : Type 0 where
  pub key : t.key ≡ s.key
  pub size : length t.slots ≡ length s.slots
  pub inside : (k : ℕ) → k < corners r.grid.dim
      → IsRaisedSlot r (adjacent_of r.grid.dim s.key k) (slot_at s k) (slot_at t k)
  pub intents : (k : ℕ) → k < 8 → (slot_at t k).intent ≡ (slot_at s k).intent
  pub unused : (k : ℕ) → corners r.grid.dim ≤ k → k < 8 → slot_at t k ≡ slot_at s k

-- a corner that is a vertex has a key of the dimension
abbrev pub IsOfDim : Dim → Corner → Type 0
IsOfDim dim (Vertex s) = IsVertex dim s.key
IsOfDim dim (Hanging k) = Unit {0}
IsOfDim dim Beyond = Unit {0}

-- so at each corner that is a vertex
abbrev pub IsRaisedCorner : Source → Corner → Corner → Type 0
IsRaisedCorner r (Vertex s) (Vertex t) = IsRaisedRecord r s t
IsRaisedCorner r (Hanging k) (Hanging l) = l ≡ k
IsRaisedCorner r Beyond Beyond = Unit {0}
IsRaisedCorner r _ _ = ⊥

-- and of a view nothing else is changed; it has eight places for corners
pub record IsRaisedView (r : Source) (v w : CellView) : Type 0 where
  pub corners : (n : ℕ) → n < 8 → IsRaisedCorner r (corner_at v n) (corner_at w n)
  pub past : (n : ℕ) → 8 ≤ n → corner_at w n ≡ corner_at v n
  pub size : length w.corners ≡ length v.corners
  pub others : w ≡ record v { corners = w.corners }
