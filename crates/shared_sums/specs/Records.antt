-- A store whose slots take the means of a list of cells, one after another.
use Rattle.std.specs.Prelude.{◌≡◌, ℕ, ◌<◌, ℤ, pos, if◌then◌else◌, nat_lt, List, Option, Some, None, IsSome, All, length, slice_index_or}
use Rattle.std.specs.List.{find}
use Rattle.peano_keys.specs.declared.cell.CellKey.{CellKey}
use Rattle.peano_keys.specs.declared.dim.Dim.{Dim}
use Rattle.peano_keys.specs.declared.vertex.VertexKey.{VertexKey}
use Rattle.peano_keys.specs.Dim.{corners}
use Rattle.peano_keys.specs.Vertex.{adjacent_of}
use Rattle.peano_records.specs.declared.slot.Slot.{Slot}
use Rattle.peano_records.specs.Slots.{VertexRecord, slot_at, with_slot}
use Rattle.curve_cuts.specs.Cuts.{Cuts}
use Rattle.sweep_visits.specs.Moves.{same_cell}
use Rattle.tree_automaton.specs.TreeLists.{TreeLists}
use Rattle.boundary_streams.specs.Records.{record_at, with_record}
use Rattle.peano_records.specs.declared.partials.Partial.{Partial}
use Rattle.shared_sums.specs.declared.adding.Means.{Means}
use Rattle.peano_keys.specs.Field.{state_like}
use Rattle.shared_sums.specs.Totals.{mean_in}
use Rattle.shared_sums.specs.Adding.{IsOwnShared}

-- a number of means
abbrev pub number_in : List ℤ → ℕ → ℤ
number_in values i = slice_index_or values i (pos 0)

-- the means of a cell by the totals of all trees
abbrev pub AreMeansOf : Cuts → List (List Partial) → CellKey → List ℤ → Type 0
AreMeansOf k all c values = (i : ℕ) → i < 4 → number_in values i ≡ mean_in k.depth k.dim all i c

-- means are those of a shared cell that a tree owns
pub record IsOwnMeans (k : Cuts) (all : List (List Partial)) (t : ℕ) (m : Means) : Type 0 where
  pub own : IsOwnShared k all t m.key
  pub values : AreMeansOf k all m.key m.values

-- the means of a cell in a list
abbrev pub means_of : CellKey → List Means → Option Means
means_of c ms = find (λ m. same_cell m.key c) ms

-- a list has the means of each shared cell that a tree owns, and no other
pub record AreOwnMeans (k : Cuts) (all : List (List Partial)) (t : ℕ)
    (ms : List Means) : Type 0 where
  pub sound : All (IsOwnMeans k all t) ms
  pub complete : (c : CellKey) → IsOwnShared k all t c → IsSome (means_of c ms)

-- the cell of a slot
abbrev pub cell_of : Dim → VertexKey → ℕ → Option CellKey
cell_of dim v n = if nat_lt n (corners dim) then adjacent_of dim v n else None

-- a slot with these means, if there are any
abbrev pub slot_with : Option Means → Slot → Slot
slot_with None s = s
slot_with (Some m) s = record s { next = state_like s.next (number_in m.values) }

-- those of a cell, if there is one
abbrev pub means_at : List Means → Option CellKey → Option Means
means_at ms None = None
means_at ms (Some c) = means_of c ms

-- what slot number `n` of a vertex becomes
abbrev pub changed_slot : Dim → List Means → VertexKey → ℕ → Slot → Slot
changed_slot dim ms v n s = slot_with (means_at ms (cell_of dim v n)) s

-- one slot of a record is changed so, and all else is as it was
pub record IsSlotBy (f : ℕ → Slot → Slot) (i n : ℕ) (old new : TreeLists) : Type 0 where
  pub eight : (d : VertexRecord) → length (record_at old i d).slots ≡ 8
  pub slot : (d : VertexRecord)
      → new
      ≡ with_record old i (with_slot (record_at old i d) n (f n (slot_at (record_at old i d) n)))

-- a record of which all slots are changed so
pub record IsRecordBy (dim : Dim) (ms : List Means) (old new : VertexRecord) : Type 0 where
  pub key : new.key ≡ old.key
  pub size : length new.slots ≡ length old.slots
  pub slots : (n : ℕ) → n < 8 → slot_at new n ≡ changed_slot dim ms old.key n (slot_at old n)

-- the record at a place is changed so, and all else is as it was
pub record IsPlaceBy (dim : Dim) (ms : List Means) (i : ℕ) (old new : TreeLists) : Type 0 where
  pub next : VertexRecord
  pub rest : new ≡ with_record old i next
  pub record_by : (d : VertexRecord) → IsRecordBy dim ms (record_at old i d) next

-- so are all records
pub record IsStoreBy (dim : Dim) (ms : List Means) (old new : TreeLists) : Type 0 where
  pub rest : new ≡ record old { lanes = record old.lanes { input = new.lanes.input } }
  pub count : length new.lanes.input ≡ length old.lanes.input
  pub records : (i : ℕ) (d : VertexRecord) → i < length old.lanes.input
      → IsRecordBy dim ms (slice_index_or old.lanes.input i d) (slice_index_or new.lanes.input i d)
