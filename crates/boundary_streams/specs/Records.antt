-- A store whose records are merged one after another.
use Rattle.std.specs.Prelude.{◌≡◌, ℕ, ◌<◌, Option, length, slice_index_or, slice_set}
use Rattle.peano_records.specs.declared.slot.Slot.{Slot}
use Rattle.peano_records.specs.declared.stored.Parcel.{Parcel}
use Rattle.peano_records.specs.Slots.{VertexRecord, slot_at, with_slot}
use Rattle.curve_cuts.specs.Cuts.{Cuts}
use Rattle.step_phases.specs.declared.phase.Phase.{Phase}
use Rattle.step_phases.specs.Exchange.{finished}
use Rattle.tree_automaton.specs.TreeLists.{TreeLists}
use Rattle.boundary_streams.specs.Sent.{Mail}
use Rattle.boundary_streams.specs.Merges.{taken, IsMergedRecord}

-- the record at a place of the input
abbrev pub record_at : TreeLists → ℕ → VertexRecord → VertexRecord
record_at s i d = slice_index_or s.lanes.input i d

-- a store with another record at a place of the input
abbrev pub with_record : TreeLists → ℕ → VertexRecord → TreeLists
with_record s i v = record s { lanes = record s.lanes { input = slice_set s.lanes.input i v } }

-- what a phase makes of a slot of a record, with the parcel that is found for it
abbrev pub new_slot : Phase → ℕ → Option Parcel → VertexRecord → Slot
new_slot phase n found v = finished phase (taken phase n found (slot_at v n))

-- one slot of a record is changed as the phase says, and all else is as it was
pub record IsSlotExchanged (phase : Phase) (i n : ℕ) (found : Option Parcel)
    (old new : TreeLists) : Type 0 where
  pub eight : (d : VertexRecord) → length (record_at old i d).slots ≡ 8
  pub slot : (d : VertexRecord)
      → new
      ≡ with_record old i
      (with_slot (record_at old i d) n (new_slot phase n found (record_at old i d)))

-- all slots of a record are, each with what is found for it
pub record IsRecordExchanged (phase : Phase) (i : ℕ) (found : ℕ → Option Parcel)
    (old new : TreeLists) : Type 0 where
  pub next : VertexRecord
  pub rest : new ≡ with_record old i next
  pub key : (d : VertexRecord) → next.key ≡ (record_at old i d).key
  pub size : (d : VertexRecord) → length next.slots ≡ length (record_at old i d).slots
  pub slots : (d : VertexRecord) (n : ℕ) → n < 8
      → slot_at next n ≡ new_slot phase n (found n) (record_at old i d)

-- one record is merged, and all else is as it was
pub record MergesAt (phase : Phase) (k : Cuts) (mail : Mail) (i : ℕ)
    (old new : TreeLists) : Type 0 where
  pub next : VertexRecord
  pub rest : new ≡ with_record old i next
  pub merged : (d : VertexRecord) → IsMergedRecord phase k mail old.tree (record_at old i d) next
