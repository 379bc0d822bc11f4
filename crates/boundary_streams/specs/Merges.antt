-- What a tree makes of its store from what it was sent.
use Rattle.std.specs.Prelude.{◌≡◌, ◌≢◌, ℕ, ◌<◌, Option, Some, None, length, slice_index_or}
use Rattle.peano_keys.specs.declared.cell.CellKey.{CellKey}
use Rattle.peano_keys.specs.declared.vertex.VertexKey.{VertexKey}
use Rattle.peano_keys.specs.Dim.{corners}
use Rattle.peano_keys.specs.Vertex.{adjacent_of}
use Rattle.peano_records.specs.declared.slot.Slot.{Slot}
use Rattle.peano_records.specs.declared.slot.Status.TheVariants.{Unset}
use Rattle.peano_records.specs.declared.stored.Parcel.{Parcel}
use Rattle.peano_records.specs.Slots.{VertexRecord, slot_at, blank}
use Rattle.curve_cuts.specs.Cuts.{Cuts, Owns}
use Rattle.step_phases.specs.declared.phase.Phase.{Phase}
use Rattle.step_phases.specs.Exchange.{overwritten, finished}
use Rattle.tree_automaton.specs.TreeLists.{TreeLists}
use Rattle.boundary_streams.specs.Sent.{Mail}

-- a tree owns the cell at adjacent position number `n` of a vertex
pub record OwnsSlot (k : Cuts) (t : ℕ) (v : VertexKey) (n : ℕ) : Type 0 where
  pub cell : CellKey
  pub below : n < corners k.dim
  pub at : adjacent_of k.dim v n ≡ Some cell
  pub owns : Owns k t cell

-- slot number `n` with the fields that a phase takes from a parcel, if there is one
abbrev pub taken : Phase → ℕ → Option Parcel → Slot → Slot
taken phase n None ours = ours
taken phase n (Some p) ours = overwritten phase (slice_index_or p.slots n (blank Unset)) ours

-- A record after a tree's merge, slot by slot. Where another tree owns the slot's cell, the fields of the phase are those of what that tree sent of the vertex;
-- all other slots keep them. Then every slot is finished.
pub record IsMergedRecord (phase : Phase) (k : Cuts) (mail : Mail) (t : ℕ)
    (old new : VertexRecord) : Type 0 where
  pub key : new.key ≡ old.key
  pub size : length new.slots ≡ length old.slots
  pub others : (n o : ℕ) → OwnsSlot k o old.key n → o ≢ t
      → slot_at new n ≡ finished phase (taken phase n (mail o old.key) (slot_at old n))
  pub own : (n : ℕ) → n < 8 → ((o : ℕ) → OwnsSlot k o old.key n → o ≡ t)
      → slot_at new n ≡ finished phase (slot_at old n)

-- A store after its merge: each record is merged, and all else is as it was.
pub record IsMerged (phase : Phase) (k : Cuts) (mail : Mail) (old new : TreeLists) : Type 0 where
  pub rest : new ≡ record old { lanes = record old.lanes { input = new.lanes.input } }
  pub count : length new.lanes.input ≡ length old.lanes.input
  pub records : (i : ℕ) (d : VertexRecord) → i < length old.lanes.input
      → IsMergedRecord phase k mail old.tree (slice_index_or old.lanes.input i d)
      (slice_index_or new.lanes.input i d)
