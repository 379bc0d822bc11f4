-- The calls of a visitor in a sweep of one tree, one after another, and what they change in the slots of cells.
use Rattle.std.specs.Prelude.{◌≡◌, ◌≢◌, ◌⊎◌, ℕ, ◌+◌, ◌<◌, Bool, true, false}
use Rattle.peano_keys.specs.declared.cell.CellKey.{CellKey}
use Rattle.peano_keys.specs.declared.vertex.VertexKey.{VertexKey}
use Rattle.peano_keys.specs.Cell.{parent_of}
use Rattle.peano_keys.specs.Grid.{Spacetree, has_cell}
use Rattle.peano_records.specs.declared.slot.Slot.{Slot}
use Rattle.curve_cuts.specs.Cuts.{Cuts, Owns, HasVertex}
use Rattle.step_phases.specs.Stores.{Store}
use Rattle.step_phases.specs.Sweeps.{IsSweptRecord}

-- the calls of a sweep: so many, of which each is at a cell, where the cell is entered or left
pub record Calls : Type 0 where
  pub count : ℕ
  pub cell : ℕ → CellKey
  pub leaving : ℕ → Bool

-- one call changes the slots of its own cell as it does at this cell, and no other slot
pub record CallChanges (cell : CellKey) (E : Slot → Slot → Type 0) (c : CellKey)
    (old new : Slot) : Type 0 where
  pub here : cell ≡ c → E old new
  pub away : cell ≢ c → new ≡ old

-- a tree's store before the first call and after each: what a call does depends on whether the cell is left, and on the cell
pub record AreMade (k : Cuts) (g : Spacetree) (t : ℕ) (s : Calls)
    (E : Bool → CellKey → Slot → Slot → Type 0) (at : ℕ → Store) : Type 0 where
  pub step : (m : ℕ) (v : VertexKey) → m < s.count → HasVertex k g t v
      → IsSweptRecord k (CallChanges (s.cell m) (E (s.leaving m) (s.cell m))) v (at m v)
      (at (m + 1) v)

-- a cell is entered and left once
pub record IsVisited (s : Calls) (c : CellKey) (enter leave : ℕ) : Type 0 where
  pub order : enter < leave
  pub within : leave < s.count
  pub entered : s.cell enter ≡ c
  pub left : s.cell leave ≡ c
  pub entering : s.leaving enter ≡ false
  pub parting : s.leaving leave ≡ true
  pub once : (m : ℕ) → m < s.count → m ≢ enter → m ≢ leave → s.cell m ≢ c

-- or never
abbrev pub IsPassedOver : Calls → CellKey → Type 0
IsPassedOver s c = (m : ℕ) → m < s.count → s.cell m ≢ c

-- some enter and leave of a cell
pub record HasVisit (s : Calls) (c : CellKey) : Type 0 where
  pub enter : ℕ
  pub leave : ℕ
  pub visited : IsVisited s c enter leave

-- the visits of a tree: each cell is visited or passed over, and those of the grid that the tree owns are visited
pub record AreVisits (k : Cuts) (g : Spacetree) (t : ℕ) (s : Calls) : Type 0 where
  pub each : (c : CellKey) → HasVisit s c ⊎ IsPassedOver s c
  pub owned : (c : CellKey) → Owns k t c → has_cell g c ≡ true → ¬ IsPassedOver s c

-- a cell is below another one, and its child where it is one level below
pub record IsBelow (p c : CellKey) : Type 0 where
  pub deeper : p.level < c.level
  pub child : c.level ≡ p.level + 1 → parent_of c ≡ p

-- between the enter and the leave of a cell only cells below it are visited
abbrev pub AreNested : Calls → Type 0
AreNested s = (p : CellKey) (enter leave m : ℕ) → IsVisited s p enter leave → enter < m → m < leave
    → IsBelow p (s.cell m)
