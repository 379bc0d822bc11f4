-- What a cell's view shows of the old grid and of the new one: the condition under which it decides storedness.
use Rattle.std.specs.Prelude.{◌≡◌, ℕ, ◌<◌, ◌↔◌, ◌⊎◌, Bool, true, false, Option, Some, None}
use Rattle.peano_keys.specs.declared.dim.Dim.{Dim}
use Rattle.peano_keys.specs.declared.cell.CellKey.{CellKey}
use Rattle.peano_keys.specs.declared.vertex.VertexKey.{VertexKey}
use Rattle.peano_keys.specs.declared.side.Mark.{Mark}
use Rattle.peano_keys.specs.Dim.{corners}
use Rattle.peano_keys.specs.Vertex.{corner_of}
use Rattle.peano_keys.specs.Grid.{Spacetree, IsGrid, IsStored, is_refined, is_leaf}
use Rattle.peano_keys.specs.Next.{IsNextGrid}
use Rattle.peano_records.specs.declared.slot.Slot.{Slot}
use Rattle.peano_records.specs.declared.slot.Status.TheVariants.{Refined}
use Rattle.peano_records.specs.declared.slot.Intent.TheVariants.{Stay, Split, Merge}
use Rattle.peano_records.specs.declared.view.Corner.{Corner}
use Rattle.peano_records.specs.declared.view.Corner.TheVariants.{Vertex, Hanging, Beyond}
use Rattle.peano_records.specs.declared.view.CellView.{CellView}
use Rattle.peano_records.specs.Slots.{VertexRecord}
use Rattle.peano_records.specs.AtRest.{SaysOfCells}
use Rattle.peano_records.specs.Tells.{corner_at}

-- an old grid and a new one: one grid, or a grid and the next one by some marks
pub record AreOldAndNew (depth : ℕ) (dim : Dim) (old new : Spacetree) : Type 0 where
  pub grid : IsGrid depth old
  pub old_dim : old.dim ≡ dim
  pub step : (new ≡ old) ⊎ ((marks : CellKey → Mark) × IsNextGrid old marks new)

-- the grids of a sweep; where there is no old one, the new one alone is asked
abbrev pub AreGrids : ℕ → Dim → Option Spacetree → Spacetree → Bool → Type 0
AreGrids depth dim None new after = (after ≡ true) × (new.dim ≡ dim) × IsGrid depth new
AreGrids depth dim (Some old) new after = AreOldAndNew depth dim old new

-- stored in the old grid, where there is one
abbrev pub IsStoredBefore : Option Spacetree → VertexKey → Type 0
IsStoredBefore None v = ⊥
IsStoredBefore (Some old) v = IsStored old v

-- stored in the grid that is asked: the old one, or with `after` the new one
abbrev pub IsStoredIn : Bool → Option Spacetree → Spacetree → VertexKey → Type 0
IsStoredIn false old new v = IsStoredBefore old v
IsStoredIn true old new v = IsStored new v

-- a slot of a vertex that is stored in the old grid: only leaves split and only refined cells merge, the status counts where the cell is to stay, and with `after` the intents are those that make the new grid
pub record IsOldSlot (old new : Spacetree) (after : Bool) (q : CellKey) (s : Slot) : Type 0 where
  pub split : s.intent ≡ Split → is_leaf old q ≡ true
  pub merge : s.intent ≡ Merge → is_refined old q ≡ true
  pub stay : s.intent ≡ Stay → (s.status ≡ Refined) ↔ (is_refined old q ≡ true)
  pub splits : after ≡ true
      → (s.intent ≡ Split) ↔ ((is_leaf old q ≡ true) × (is_refined new q ≡ true))
  pub merges : after ≡ true
      → (s.intent ≡ Merge) ↔ ((is_refined old q ≡ true) × (is_refined new q ≡ false))

-- a slot of a vertex that is stored in the new grid alone: nothing is intended, and only cells that are refined there are said to be so
pub record IsNewSlot (new : Spacetree) (q : CellKey) (s : Slot) : Type 0 where
  pub stay : s.intent ≡ Stay
  pub refined : s.status ≡ Refined → is_refined new q ≡ true

-- a slot where there is no old grid: nothing is intended, and it is said which cells are refined
pub record IsFirstSlot (new : Spacetree) (q : CellKey) (s : Slot) : Type 0 where
  pub stay : s.intent ≡ Stay
  pub refined : (s.status ≡ Refined) ↔ (is_refined new q ≡ true)

-- a record is of a vertex that is stored in one of the grids, and each slot of a position inside the domain is right; what stands in the other slots is free
abbrev pub HasSlots : Dim → Option Spacetree → Spacetree → Bool → VertexKey → VertexRecord → Type 0
HasSlots dim None new after w s = IsStored new w × SaysOfCells dim s (IsFirstSlot new)
HasSlots dim (Some old) new after w s = (IsStored old w ⊎ IsStored new w)
    × (IsStored old w → SaysOfCells dim s (IsOldSlot old new after))
    × (¬ IsStored old w → SaysOfCells dim s (IsNewSlot new))

-- a corner is a vertex exactly where it is stored in one of the grids, and has its own key
abbrev pub IsShown : Dim → Option Spacetree → Spacetree → Bool → VertexKey → Corner → Type 0
IsShown dim old new after w (Vertex s) = (s.key ≡ w) × HasSlots dim old new after w s
IsShown dim old new after w (Hanging k) = (k ≡ w) × (¬ IsStoredBefore old w) × (¬ IsStored new w)
IsShown dim old new after w Beyond = ⊥

-- a view shows the grids by its corners
abbrev pub Shows : Dim → Option Spacetree → Spacetree → Bool → CellView → Type 0
Shows dim old new after view = (n : ℕ) → n < corners dim
    → IsShown dim old new after (corner_of view.key n) (corner_at view n)
