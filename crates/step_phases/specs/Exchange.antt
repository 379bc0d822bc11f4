-- Exchanges of records between all trees, slot by slot.
use Rattle.std.specs.Prelude.{◌≡◌, ℕ, ◌<◌, ◌≤◌, Some, None, length}
use Rattle.peano_keys.specs.declared.cell.CellKey.{CellKey}
use Rattle.peano_keys.specs.declared.vertex.VertexKey.{VertexKey}
use Rattle.peano_keys.specs.Dim.{corners}
use Rattle.peano_keys.specs.Vertex.{adjacent_of}
use Rattle.peano_keys.specs.Grid.{Spacetree}
use Rattle.peano_records.specs.declared.slot.Slot.{Slot}
use Rattle.peano_records.specs.declared.slot.Intent.TheVariants.{Stay}
use Rattle.peano_records.specs.Slots.{VertexRecord, slot_at}
use Rattle.step_phases.specs.declared.phase.Phase.{Phase}
use Rattle.step_phases.specs.declared.phase.Phase.TheVariants.{First, Second, Third, Opening}
use Rattle.curve_cuts.specs.Cuts.{Cuts, Owns, HasVertex}
use Rattle.step_phases.specs.Stores.{Stores}

-- a slot with the fields that a phase takes from the owner's
abbrev pub overwritten : Phase → Slot → Slot → Slot
overwritten First theirs ours = record ours { next = theirs.next; mark = theirs.mark }
overwritten Second theirs ours = record ours { next = theirs.next; intent = theirs.intent }
overwritten Third theirs ours = record ours { status = theirs.status; value = theirs.value }
overwritten Opening theirs ours = record ours { status = theirs.status; value = theirs.value }

-- what a phase then does to every slot
abbrev pub finished : Phase → Slot → Slot
finished First s = s
finished Second s = record s { value = s.next }
finished Third s = record s { intent = Stay }
finished Opening s = record s { intent = Stay }

-- what a phase makes of a slot, from the owner's slot of that cell
abbrev pub exchanged : Phase → Slot → Slot → Slot
exchanged phase theirs ours = finished phase (overwritten phase theirs ours)

-- one record after an exchange: each slot of a cell from that of the cell's owner, every other slot from itself
pub record IsExchangedRecord (phase : Phase) (k : Cuts) (before : Stores) (v : VertexKey)
    (old new : VertexRecord) : Type 0 where
  pub key : new.key ≡ old.key
  pub size : length new.slots ≡ length old.slots
  pub inside : (n o : ℕ) (q : CellKey) → n < corners k.dim → adjacent_of k.dim v n ≡ Some q
      → Owns k o q → slot_at new n ≡ exchanged phase (slot_at (before o v) n) (slot_at old n)
  pub outside : (n : ℕ) → n < corners k.dim → adjacent_of k.dim v n ≡ None
      → slot_at new n ≡ finished phase (slot_at old n)
  pub unused : (n : ℕ) → corners k.dim ≤ n → n < 8 → slot_at new n ≡ finished phase (slot_at old n)

-- an exchange between all trees over the vertices of a grid
abbrev pub IsExchanged : Phase → Cuts → Spacetree → Stores → Stores → Type 0
IsExchanged phase k g before after = (t : ℕ) (v : VertexKey) → HasVertex k g t v
    → IsExchangedRecord phase k before v (before t v) (after t v)

-- what the copies of other trees must have of the owner's slot before a phase: the statuses and values that it does not set
abbrev pub AgreeBefore : Phase → Slot → Slot → Type 0
AgreeBefore First theirs ours = (ours.status ≡ theirs.status) × (ours.value ≡ theirs.value)
AgreeBefore Second theirs ours = ours.status ≡ theirs.status
AgreeBefore Third theirs ours = Unit {0}
AgreeBefore Opening theirs ours = Unit {0}

-- what they have after it: status, value and the fields that the phase overwrites
abbrev pub AgreeAfter : Phase → Slot → Slot → Type 0
AgreeAfter First theirs ours = (ours.status ≡ theirs.status) × (ours.value ≡ theirs.value)
    × (ours.mark ≡ theirs.mark) × (ours.next ≡ theirs.next)
AgreeAfter Second theirs ours = (ours.status ≡ theirs.status) × (ours.value ≡ theirs.value)
    × (ours.next ≡ theirs.next) × (ours.intent ≡ theirs.intent)
AgreeAfter Third theirs ours = (ours.status ≡ theirs.status) × (ours.value ≡ theirs.value)
AgreeAfter Opening theirs ours = (ours.status ≡ theirs.status) × (ours.value ≡ theirs.value)

-- of each slot of a cell in each copy, and that of the cell's owner
abbrev pub EachWithOwner : Cuts → Spacetree → (Slot → Slot → Type 0) → Stores → Type 0
EachWithOwner k g P stores = (t o n : ℕ) (v : VertexKey) (q : CellKey) → HasVertex k g t v
    → n < corners k.dim → adjacent_of k.dim v n ≡ Some q → Owns k o q
    → P (slot_at (stores o v) n) (slot_at (stores t v) n)
