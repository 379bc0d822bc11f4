-- What the sweeps of a step change in the slots of cells.
use Rattle.std.specs.Prelude.{◌≡◌, ℕ, ◌<◌, ◌≤◌, Bool, true, false, Some, None, length, if◌then◌else◌}
use Rattle.peano_keys.specs.declared.cell.CellKey.{CellKey}
use Rattle.peano_keys.specs.declared.state.State.{State}
use Rattle.peano_keys.specs.declared.vertex.VertexKey.{VertexKey}
use Rattle.peano_keys.specs.declared.side.Mark.{Mark}
use Rattle.peano_keys.specs.Dim.{corners}
use Rattle.peano_keys.specs.Vertex.{adjacent_of}
use Rattle.peano_keys.specs.Grid.{Spacetree, IsStored, is_refined, has_cell, is_leaf}
use Rattle.peano_keys.specs.Next.{Splits, Merges}
use Rattle.peano_records.specs.declared.slot.Slot.{Slot}
use Rattle.peano_records.specs.declared.slot.Intent.{Intent}
use Rattle.peano_records.specs.declared.slot.Intent.TheVariants.{Stay, Split, Merge}
use Rattle.peano_records.specs.Slots.{VertexRecord, slot_at, fresh}
use Rattle.peano_records.specs.AtRest.{status_of}
use Rattle.peano_records.specs.Tells.{slot_tells}
use Rattle.curve_cuts.specs.Cuts.{Cuts, Owns, HasVertex}
use Rattle.curve_cuts.specs.Enclave.{IsSkeleton}
use Rattle.step_phases.specs.Stores.{Store, home_slot}
use Rattle.step_phases.specs.Change.{Change, carrier}
use Rattle.step_phases.specs.Phases.{HasNext}

-- a record after a sweep: the slot of each cell was changed as the visits of that cell change it, and no other slot
pub record IsSweptRecord (k : Cuts) (E : CellKey → Slot → Slot → Type 0) (v : VertexKey)
    (old new : VertexRecord) : Type 0 where
  pub key : new.key ≡ old.key
  pub size : length new.slots ≡ length old.slots
  pub inside : (n : ℕ) (c : CellKey) → n < corners k.dim → adjacent_of k.dim v n ≡ Some c
      → E c (slot_at old n) (slot_at new n)
  pub outside : (n : ℕ) → n < corners k.dim → adjacent_of k.dim v n ≡ None
      → slot_at new n ≡ slot_at old n
  pub unused : (n : ℕ) → corners k.dim ≤ n → n < 8 → slot_at new n ≡ slot_at old n

-- a sweep of a tree over one grid
abbrev pub IsSwept : Cuts → Spacetree → ℕ → (CellKey → Slot → Slot → Type 0) → Store → Store
    → Type 0
IsSwept k g t E before after = (v : VertexKey) → HasVertex k g t v
    → IsSweptRecord k E v (before v) (after v)

-- a raising sweep: the status of each cell by the grid, whoever owns it, and the values of the tree's own cells
pub record RaiseChanges (k : Cuts) (g : Spacetree) (f : CellKey → State) (t : ℕ) (c : CellKey)
    (old new : Slot) : Type 0 where
  pub status : new.status ≡ status_of (is_refined g c)
  pub value : Owns k t c → new.value ≡ f c
  pub intent : new.intent ≡ old.intent

-- each vertex was made in this sweep
abbrev pub IsRaised : Cuts → Spacetree → (CellKey → State) → ℕ → Store → Type 0
IsRaised k g f t store = (v : VertexKey) → HasVertex k g t v
    → IsSweptRecord k (RaiseChanges k g f t) v (fresh k.dim v) (store v)

-- the primary sweep: the mark of each leaf of the tree's own, and the new value of each skeleton leaf
pub record PrimaryChanges (k : Cuts) (w : Change) (t : ℕ) (c : CellKey)
    (old new : Slot) : Type 0 where
  pub status : new.status ≡ old.status
  pub value : new.value ≡ old.value
  pub intent : new.intent ≡ old.intent
  pub mark : Owns k t c → is_leaf w.old c ≡ true → new.mark ≡ w.mark c
  pub next : IsSkeleton k w.old t c → HasNext w c new

-- the intent of a cell by the marks: leaves that split, refined cells that merge, and no other cell
pub record IsIntentOf (g : Spacetree) (marks : CellKey → Mark) (c : CellKey)
    (i : Intent) : Type 0 where
  pub split : Splits g marks c → i ≡ Split
  pub merge : Merges g marks c → i ≡ Merge
  pub stay : ¬ Splits g marks c → ¬ Merges g marks c → i ≡ Stay

-- the secondary sweep: new values and intents of the tree's own cells; nothing is said of how the value of a refined cell is found
pub record SecondaryChanges (k : Cuts) (w : Change) (t : ℕ) (c : CellKey)
    (old new : Slot) : Type 0 where
  pub status : new.status ≡ old.status
  pub value : new.value ≡ old.value
  pub mark : new.mark ≡ old.mark
  pub next : Owns k t c → HasNext w c new
  pub intent : Owns k t c → IsIntentOf w.old w.mark c new.intent

-- whether a tree sees a cell refined after the adaptation: by the cell's home corner, and never a cell that is new
abbrev pub refined_in : Cuts → Change → Store → CellKey → Bool
refined_in k w before c = if has_cell w.old c then slot_tells true (home_slot k.dim before c)
    else false

-- the adaptation sweep: status and value of the tree's own cells, the value by the home corner of the cell that it comes from
pub record AdaptChanges (k : Cuts) (w : Change) (before : Store) (t : ℕ) (c : CellKey)
    (old new : Slot) : Type 0 where
  pub intent : new.intent ≡ old.intent
  pub status : Owns k t c → new.status ≡ status_of (refined_in k w before c)
  pub value : Owns k t c → new.value ≡ (home_slot k.dim before (carrier w.old c)).value

-- a vertex that is stored in both grids keeps its record, one that is stored in the new grid alone was made
pub record IsAdaptedRecord (k : Cuts) (w : Change) (before : Store) (t : ℕ) (v : VertexKey)
    (new : VertexRecord) : Type 0 where
  pub kept : IsStored w.old v → IsSweptRecord k (AdaptChanges k w before t) v (before v) new
  pub made : ¬ IsStored w.old v → IsSweptRecord k (AdaptChanges k w before t) v (fresh k.dim v) new

-- an adaptation sweep of a tree: of each of its vertices of the new grid
abbrev pub IsAdapted : Cuts → Change → ℕ → Store → Store → Type 0
IsAdapted k w t before after = (v : VertexKey) → HasVertex k w.new t v
    → IsAdaptedRecord k w before t v (after v)
