-- Laws of slots.
use Rattle.std.specs.Prelude.{◌≡◌, ◌↔◌, ℕ, ◌<◌, ◌==◌, true, false, None, length, if◌then◌else◌}
use Rattle.peano_keys.specs.declared.dim.Dim.{Dim}
use Rattle.peano_keys.specs.declared.cell.CellKey.{CellKey}
use Rattle.peano_keys.specs.declared.vertex.VertexKey.{VertexKey}
use Rattle.peano_keys.specs.declared.side.Mark.{Mark}
use Rattle.peano_keys.specs.Dim.{corners}
use Rattle.peano_keys.specs.Vertex.{adjacent_of}
use Rattle.peano_keys.specs.Grid.{Spacetree, is_refined}
use Rattle.peano_keys.specs.Field.{States}
use Rattle.peano_keys.specs.Next.{IsNextGrid, Splits, Merges}
use Rattle.peano_records.specs.declared.slot.Slot.{Slot}
use Rattle.peano_records.specs.declared.slot.Status.TheVariants.{Outside}
use Rattle.peano_records.specs.declared.slot.Intent.TheVariants.{Stay, Split, Merge}
use Rattle.peano_records.specs.Slots.{VertexRecord, slot_at, with_slot, fresh}
use Rattle.peano_records.specs.AtRest.{intent_between, HoldsIntent, IsAtRest, IsBeforeAdapting}
use Rattle.peano_records.specs.Tells.{slot_tells}

-- a new record says `Outside` at the positions outside the domain and nowhere else
abbrev pub FreshSaysOutside : Type 0
FreshSaysOutside = (dim : Dim) (key : VertexKey) (n : ℕ) → n < 8
    → ((slot_at (fresh dim key) n).status ≡ Outside)
    ↔ ((n < corners dim) × (adjacent_of dim key n ≡ None))

-- a new record intends nothing
abbrev pub FreshStays : Type 0
FreshStays = (dim : Dim) (key : VertexKey) (n : ℕ) → n < 8
    → (slot_at (fresh dim key) n).intent ≡ Stay

-- a record with another slot has that slot there, and its own everywhere else
abbrev pub SetChangesOneSlot : Type 0
SetChangesOneSlot = (v : VertexRecord) (n k : ℕ) (s : Slot) → n < length v.slots
    → k < length v.slots → slot_at (with_slot v n s) k ≡ (if k == n then s else slot_at v k)

-- the intent between a grid and the next one follows the marks: leaves that split, refined cells that merge, and no other cell
pub record FollowsMarks (old new : Spacetree) (marks : CellKey → Mark) (c : CellKey) : Type 0 where
  pub split : Splits old marks c → intent_between (is_refined old c) (is_refined new c) ≡ Split
  pub merge : Merges old marks c → intent_between (is_refined old c) (is_refined new c) ≡ Merge
  pub stay : ¬ Splits old marks c → ¬ Merges old marks c
      → intent_between (is_refined old c) (is_refined new c) ≡ Stay

-- the intents between a grid and its next one by marks follow these marks
abbrev pub IntentsFollowMarks : Type 0
IntentsFollowMarks = (old new : Spacetree) (marks : CellKey → Mark) (c : CellKey)
    → IsNextGrid old marks new → FollowsMarks old new marks c

-- before an adaptation a slot tells both grids
pub record TellsBoth (old new : Spacetree) (c : CellKey) (s : Slot) : Type 0 where
  pub before : slot_tells false s ≡ is_refined old c
  pub after : slot_tells true s ≡ is_refined new c

-- a slot that holds the intent of a cell tells both grids of it
abbrev pub SlotsTellBothGrids : Type 0
SlotsTellBothGrids = (old new : Spacetree) (c : CellKey) (s : Slot) → HoldsIntent old new c s
    → TellsBoth old new c s

-- a record at rest is one before an adaptation that changes nothing
abbrev pub RestIntendsNothing : Type 0
RestIntendsNothing = (t : Spacetree) (f : States) (v : VertexRecord) → IsAtRest t f v
    → IsBeforeAdapting t t v
