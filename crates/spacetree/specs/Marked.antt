-- What a step makes of the leaves of a grid: their new states, the sets of those that have a mark, and what comes of these.
use Rattle.std.specs.Prelude.{◌≡◌, ◌↔◌, ◌⊎◌, ◌<◌, ℕ, true, List, Some}
use Rattle.std.specs.FinMap as map
use Rattle.std.specs.FinSet as set
use Rattle.peano_keys.specs.declared.cell.CellKey.{CellKey}
use Rattle.peano_keys.specs.declared.dim.Dim.{Dim}
use Rattle.peano_keys.specs.declared.side.Mark.{Mark}
use Rattle.peano_keys.specs.declared.side.Mark.TheVariants.{Refine, Coarsen}
use Rattle.peano_keys.specs.Cell.{IsDigits, child_of}
use Rattle.peano_keys.specs.Grid.{Cells, Spacetree}
use Rattle.peano_keys.specs.Field.{States, value_of}
use Rattle.solver_api.specs.Step.{UpdateRule, IsLeafOf, new_state, source_of}
use Rattle.spacetree.specs.declared.fault.EvalFault.{EvalFault}
use Rattle.spacetree.specs.declared.fault.EvalFault.TheVariants.{Overflow, Crowded, NoMemory}
use Rattle.spacetree.specs.Fields.{HasLeaves}
use Rattle.spacetree.specs.Evaluation.{IsCrowded}

-- a field has the new state of each leaf of a grid
abbrev pub HasNewStates : UpdateRule → Spacetree → States → States → Type 0
HasNewStates updated t f new = (c : CellKey) → IsLeafOf t c
    → map.get new c ≡ new_state updated t f c

-- a set has the leaves of a grid with one mark, and no other cell
abbrev pub HasMarked : Spacetree → (CellKey → Mark) → Mark → Cells → Type 0
HasMarked t marks m s = (c : CellKey) → (set.contains s c ≡ true) ↔ (IsLeafOf t c × (marks c ≡ m))

-- two sets have the leaves of a grid that are marked to be refined, and those that are marked to be coarsened
pub record AreMarked (t : Spacetree) (marks : CellKey → Mark) (split merge : Cells) : Type 0 where
  pub refine : HasMarked t marks Refine split
  pub coarsen : HasMarked t marks Coarsen merge

-- they are those of some marks by which only cells above level 12 are refined
pub record AreServedMarks (t : Spacetree) (split merge : Cells) : Type 0 where
  pub marks : CellKey → Mark
  pub marked : AreMarked t marks split merge
  pub above : (c : CellKey) → marks c ≡ Refine → c.level < 12

-- a cell was added to a set where a fact holds, and where it does not the set stays
abbrev pub IsAddedWhere : Type 0 → CellKey → Cells → Cells → Type 0
IsAddedWhere P c old new = (P × (new ≡ set.insert old c)) ⊎ ((P → ⊥) × (new ≡ old))

-- a set has all children of a cell
abbrev pub HasChildren : Dim → Cells → CellKey → Type 0
HasChildren dim s c = (k : List ℕ) → IsDigits dim k → set.contains s (child_of c k) ≡ true

-- why the next grid is refused: it has too many cells; or that memory was wanting
abbrev pub NextFails : Spacetree → (CellKey → Mark) → ℕ → EvalFault → Type 0
NextFails t marks step (Overflow s c) = ⊥
NextFails t marks step (Crowded s cells) = (s ≡ step) × IsCrowded t marks cells
NextFails t marks step NoMemory = Unit {0}

-- each leaf of the next grid has the value of its source in the field of new states, and no other cell has one
pub record Inherits (old new : Spacetree) (states after : States) : Type 0 where
  pub keys : HasLeaves new after
  pub values : (c : CellKey) → IsLeafOf new c
      → map.get after c ≡ Some (value_of old states (source_of old c))
