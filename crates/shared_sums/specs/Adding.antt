-- What the totals make of a tree's store: the new values of the shared cells that it owns.
use Rattle.std.specs.Prelude.{◌≡◌, ℕ, ◌<◌, List, [], Some, IsSome, length, slice_index_or}
use Rattle.peano_keys.specs.declared.cell.CellKey.{CellKey}
use Rattle.peano_keys.specs.Dim.{corners}
use Rattle.peano_keys.specs.Vertex.{adjacent_of}
use Rattle.peano_records.specs.declared.slot.Slot.{Slot}
use Rattle.peano_records.specs.Slots.{VertexRecord, slot_at}
use Rattle.curve_cuts.specs.Cuts.{Cuts, Owns}
use Rattle.tree_automaton.specs.TreeLists.{TreeLists}
use Rattle.peano_records.specs.declared.partials.Partial.{Partial}
use Rattle.peano_keys.specs.Field.{state_like}
use Rattle.shared_sums.specs.Totals.{partial_of, mean_in, ArePartials, MeansAreWords}

-- the partials of a tree
abbrev pub partials_in : List (List Partial) → ℕ → List Partial
partials_in all t = slice_index_or all t []

-- a shared cell that a tree owns: the tree has a partial of it
pub record IsOwnShared (k : Cuts) (all : List (List Partial)) (t : ℕ) (c : CellKey) : Type 0 where
  pub partial : IsSome (partial_of c (partials_in all t))
  pub owns : Owns k t c

-- a slot with the means of a cell as next state, of as many values as before
abbrev pub with_means : Cuts → List (List Partial) → CellKey → Slot → Slot
with_means k all c s = record s { next = state_like s.next (λ i. mean_in k.depth k.dim all i c) }

-- A record after a tree's sums, slot by slot: those of shared cells that the tree owns take the means, and all others stay.
pub record RecordTakesMeans (k : Cuts) (all : List (List Partial)) (t : ℕ)
    (old new : VertexRecord) : Type 0 where
  pub key : new.key ≡ old.key
  pub size : length new.slots ≡ length old.slots
  pub own : (n : ℕ) (c : CellKey) → n < corners k.dim → adjacent_of k.dim old.key n ≡ Some c
      → IsOwnShared k all t c → slot_at new n ≡ with_means k all c (slot_at old n)
  pub others : (n : ℕ) → n < 8
      → ((c : CellKey) → n < corners k.dim → adjacent_of k.dim old.key n ≡ Some c
      → ¬ IsOwnShared k all t c)
      → slot_at new n ≡ slot_at old n

-- A store after its sums: each record is such, and all else is as it was.
pub record TakesMeans (k : Cuts) (all : List (List Partial)) (old new : TreeLists) : Type 0 where
  pub rest : new ≡ record old { lanes = record old.lanes { input = new.lanes.input } }
  pub count : length new.lanes.input ≡ length old.lanes.input
  pub records : (i : ℕ) (d : VertexRecord) → i < length old.lanes.input
      → RecordTakesMeans k all old.tree (slice_index_or old.lanes.input i d)
      (slice_index_or new.lanes.input i d)

-- a tree can add the partials of all trees: there is a list for each, and the means of the tree's own shared cells fit
pub record CanAdd (k : Cuts) (all : List (List Partial)) (t : ℕ) : Type 0 where
  pub trees : length all ≡ k.trees
  pub partials : ArePartials k.depth k.dim all
  pub fit : (c : CellKey) → IsOwnShared k all t c → MeansAreWords k.depth k.dim all c
