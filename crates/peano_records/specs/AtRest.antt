-- What the slots of a stored vertex say of the cells round it while the store is at rest.
use Rattle.std.specs.Prelude.{◌≡◌, ℕ, ◌<◌, ◌≤◌, Bool, true, false, Some, None, length}
use Rattle.peano_keys.specs.declared.dim.Dim.{Dim}
use Rattle.peano_keys.specs.declared.cell.CellKey.{CellKey}
use Rattle.peano_keys.specs.Dim.{corners}
use Rattle.peano_keys.specs.Vertex.{adjacent_of}
use Rattle.peano_keys.specs.Grid.{Spacetree, is_refined}
use Rattle.peano_keys.specs.Field.{States, value_of}
use Rattle.peano_records.specs.declared.slot.Slot.{Slot}
use Rattle.peano_records.specs.declared.slot.Status.{Status}
use Rattle.peano_records.specs.declared.slot.Status.TheVariants.{Outside, Leaf, Refined}
use Rattle.peano_records.specs.declared.slot.Intent.{Intent}
use Rattle.peano_records.specs.declared.slot.Intent.TheVariants.{Stay, Split, Merge}
use Rattle.peano_records.specs.Slots.{VertexRecord, slot_at}

-- the status of a cell of a grid, by whether it is refined there
abbrev pub status_of : Bool → Status
status_of true = Refined
status_of false = Leaf

-- the intent of a cell, by whether it is refined in the old grid and in the new one
abbrev pub intent_between : Bool → Bool → Intent
intent_between false true = Split
intent_between true false = Merge
intent_between true true = Stay
intent_between false false = Stay

-- each slot of a position outside the domain says so, whatever is stored elsewhere
abbrev pub SaysOutside : Dim → VertexRecord → Type 0
SaysOutside dim v = (n : ℕ) → n < corners dim → adjacent_of dim v.key n ≡ None
    → (slot_at v n).status ≡ Outside

-- each slot of a position inside the domain says of its cell what is asked
abbrev pub SaysOfCells : Dim → VertexRecord → (CellKey → Slot → Type 0) → Type 0
SaysOfCells dim v P = (n : ℕ) (c : CellKey) → n < corners dim → adjacent_of dim v.key n ≡ Some c
    → P c (slot_at v n)

-- a slot has its cell's status and value
pub record HoldsCell (t : Spacetree) (f : States) (c : CellKey) (s : Slot) : Type 0 where
  pub status : s.status ≡ status_of (is_refined t c)
  pub value : s.value ≡ value_of t f c

-- a slot has its cell's status in the old grid, and the intent that leads to the new one; its value is free
pub record HoldsIntent (old new : Spacetree) (c : CellKey) (s : Slot) : Type 0 where
  pub status : s.status ≡ status_of (is_refined old c)
  pub intent : s.intent ≡ intent_between (is_refined old c) (is_refined new c)

-- a record at rest: it stands for a grid and a field, and nothing is intended
pub record IsAtRest (t : Spacetree) (f : States) (v : VertexRecord) : Type 0 where
  pub eight : length v.slots ≡ 8
  pub outside : SaysOutside t.dim v
  pub inside : SaysOfCells t.dim v (HoldsCell t f)
  pub stay : (n : ℕ) → n < 8 → (slot_at v n).intent ≡ Stay

-- a record at rest before an adaptation: it stands for a grid, and its intents for the next one; slots of no cell intend nothing
pub record IsBeforeAdapting (old new : Spacetree) (v : VertexRecord) : Type 0 where
  pub eight : length v.slots ≡ 8
  pub outside : SaysOutside old.dim v
  pub inside : SaysOfCells old.dim v (HoldsIntent old new)
  pub idle : (n : ℕ) → n < corners old.dim → adjacent_of old.dim v.key n ≡ None
      → (slot_at v n).intent ≡ Stay
  pub unused : (n : ℕ) → corners old.dim ≤ n → n < 8 → (slot_at v n).intent ≡ Stay
