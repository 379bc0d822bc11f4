-- Vertex records as contracts see them: a key and a list of slots.
use Rattle.std.specs.Prelude.{ℕ, pos, List, [], ◌∷◌, map, slice_index_or, slice_set, Option, Some, None, nat_lt, if◌then◌else◌}
use Rattle.peano_keys.specs.declared.dim.Dim.{Dim}
use Rattle.peano_keys.specs.declared.cell.CellKey.{CellKey}
use Rattle.peano_keys.specs.declared.vertex.VertexKey.{VertexKey}
use Rattle.peano_keys.specs.declared.state.State.TheVariants.{Single}
use Rattle.peano_keys.specs.declared.side.Mark.TheVariants.{Keep}
use Rattle.peano_keys.specs.Dim.{corners}
use Rattle.peano_keys.specs.Vertex.{adjacent_of}
use Rattle.peano_records.specs.declared.slot.Slot.{Slot}
use Rattle.peano_records.specs.declared.slot.Status.{Status}
use Rattle.peano_records.specs.declared.slot.Status.TheVariants.{Unset, Outside}
use Rattle.peano_records.specs.declared.slot.Intent.TheVariants.{Stay}

-- a vertex and its slots
pub record VertexRecord : Type 0 where
  pub key : VertexKey
  pub slots : List Slot

-- a slot of which the status alone is known
abbrev pub blank : Status → Slot
blank s =
    record { status = s; value = Single (pos 0); next = Single (pos 0); mark = Keep; intent = Stay }

-- slot number `n`
abbrev pub slot_at : VertexRecord → ℕ → Slot
slot_at v n = slice_index_or v.slots n (blank Unset)

-- the record with another slot number `n`
abbrev pub with_slot : VertexRecord → ℕ → Slot → VertexRecord
with_slot v n s = record v { slots = slice_set v.slots n s }

-- the first status of a position: outside where no cell of the domain is there
abbrev pub first_status : Option CellKey → Status
first_status None = Outside
first_status (Some c) = Unset

-- slot number `n` of a new record: a position's, or one that is not in use
abbrev pub fresh_slot : Dim → VertexKey → ℕ → Slot
fresh_slot dim key n =
    blank (if nat_lt n (corners dim) then first_status (adjacent_of dim key n) else Unset)

-- the new record of a vertex
abbrev pub fresh : Dim → VertexKey → VertexRecord
fresh dim key =
    record { key = key; slots = map (fresh_slot dim key) (0 ∷ 1 ∷ 2 ∷ 3 ∷ 4 ∷ 5 ∷ 6 ∷ 7 ∷ []) }

-- a record of which nothing is known
abbrev pub untold : VertexRecord
untold =
    record {
      key = record { level = 0; v = 0 ∷ 0 ∷ 0 ∷ [] };
      slots = blank Unset ∷ blank Unset ∷ blank Unset ∷ blank Unset ∷ blank Unset ∷ blank Unset
          ∷ blank Unset ∷ blank Unset ∷ [];
    }
