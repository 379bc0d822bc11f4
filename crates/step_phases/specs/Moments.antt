-- What slots say at each moment inside the sweeps that read them.
use Rattle.std.specs.Prelude.{◌≡◌, ◌⊎◌, ℕ, ◌<◌, ◌≤◌, true}
use Rattle.peano_keys.specs.declared.cell.CellKey.{CellKey}
use Rattle.peano_keys.specs.declared.dim.Dim.{Dim}
use Rattle.peano_keys.specs.declared.vertex.VertexKey.{VertexKey}
use Rattle.peano_keys.specs.Dim.{corners}
use Rattle.peano_keys.specs.Cell.{IsCell}
use Rattle.peano_keys.specs.Vertex.{corner_of}
use Rattle.peano_keys.specs.Grid.{Spacetree, IsStored, is_refined, has_cell}
use Rattle.peano_records.specs.declared.slot.Slot.{Slot}
use Rattle.peano_records.specs.declared.slot.Intent.TheVariants.{Stay}
use Rattle.peano_records.specs.declared.view.Corner.{Corner}
use Rattle.peano_records.specs.declared.view.Corner.TheVariants.{Vertex, Hanging, Beyond}
use Rattle.peano_records.specs.declared.view.CellView.{CellView}
use Rattle.peano_records.specs.Slots.{slot_at, fresh}
use Rattle.peano_records.specs.AtRest.{status_of, intent_between, SaysOfCells, HoldsIntent}
use Rattle.peano_records.specs.Tells.{corner_at}
use Rattle.hanging_nodes.specs.Views.{IsOldSlot, IsNewSlot}
use Rattle.adapt_marks.specs.Views.{HasMark, ShowsMarks}
use Rattle.curve_cuts.specs.Cuts.{Cuts, Owns}
use Rattle.step_phases.specs.Change.{Change}
use Rattle.step_phases.specs.Phases.{AfterFirst, AfterSecond}

-- in a secondary sweep: status and mark stand, and the intent is written or not
pub record InSecondary (w : Change) (c : CellKey) (s : Slot) : Type 0 where
  pub status : s.status ≡ status_of (is_refined w.old c)
  pub mark : HasMark w.old w.mark c s
  pub intent : (s.intent ≡ Stay)
      ⊎ (s.intent ≡ intent_between (is_refined w.old c) (is_refined w.new c))

-- a corner of a view in a grid: a stored vertex whose slots say of cells what is asked, or one that hangs
abbrev pub CornerSays : Spacetree → (CellKey → Slot → Type 0) → VertexKey → Corner → Type 0
CornerSays g P v (Vertex s) = (s.key ≡ v) × IsStored g v × SaysOfCells g.dim s P
CornerSays g P v (Hanging key) = (key ≡ v) × ¬ IsStored g v
CornerSays g P v Beyond = ⊥

-- a view whose corners do; in a plane the last four places have none
pub record ViewSays (g : Spacetree) (P : CellKey → Slot → Type 0) (view : CellView) : Type 0 where
  pub cell : IsCell g.dim view.key
  pub corner : (n : ℕ) → n < corners g.dim
      → CornerSays g P (corner_of view.key n) (corner_at view n)
  pub beyond : (n : ℕ) → corners g.dim ≤ n → n < 8 → corner_at view n ≡ Beyond

-- what the first exchange left is right for a secondary sweep
abbrev pub SecondaryBegins : Type 0
SecondaryBegins = (k : Cuts) (w : Change) (c : CellKey) (s : Slot) → AfterFirst k w c s
    → InSecondary w c s

-- and at each of its moments a view shows the grid and the marks, as the decisions on splits and merges ask
abbrev pub SecondaryViewsShow : Type 0
SecondaryViewsShow = (w : Change) (view : CellView) → ViewSays w.old (InSecondary w) view
    → ShowsMarks w.old w.mark view

-- what the second exchange left is right for an adaptation sweep
abbrev pub AdaptBegins : Type 0
AdaptBegins = (w : Change) (c : CellKey) (s : Slot) → AfterSecond w c s
    → HoldsIntent w.old w.new c s

-- and so is a vertex that is made in it
abbrev pub MadeTellsNew : Type 0
MadeTellsNew = (dim : Dim) (new : Spacetree) (v : VertexKey) (n : ℕ) (c : CellKey) → n < corners dim
    → IsNewSlot new c (slot_at (fresh dim v) n)

-- in an adaptation sweep a slot of a cell was not visited yet, or it was
pub record IsMoved (k : Cuts) (new : Spacetree) (t : ℕ) (c : CellKey)
    (before now : Slot) : Type 0 where
  pub intent : now.intent ≡ before.intent
  pub status : (now.status ≡ before.status)
      ⊎ (Owns k t c × (now.status ≡ status_of (is_refined new c)))

-- in an adaptation sweep the slots of a vertex of the old grid tell both grids at each moment
abbrev pub MovedTellsBoth : Type 0
MovedTellsBoth = (k : Cuts) (old new : Spacetree) (t : ℕ) (c : CellKey) (before now : Slot)
    → has_cell old c ≡ true → HoldsIntent old new c before → IsMoved k new t c before now
    → IsOldSlot old new true c now

-- and those of a vertex that was made tell what is refined only where it is
abbrev pub MovedTellsNew : Type 0
MovedTellsNew = (k : Cuts) (new : Spacetree) (t : ℕ) (c : CellKey) (before now : Slot)
    → IsNewSlot new c before → IsMoved k new t c before now → IsNewSlot new c now
