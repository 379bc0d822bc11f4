-- One step of a field: the new states and the marks of its leaves, and the grid and the field that come next.
use Rattle.std.specs.Prelude.{◌≡◌, ℕ, true, Option, Some, None, IsSome, IsNone, if◌then◌else◌}
use Rattle.std.specs.FinMap as map
use Rattle.std.specs.declared.cmp.Ordering.TheVariants.{Less}
use Rattle.peano_keys.specs.declared.cell.CellKey.{CellKey}
use Rattle.peano_keys.specs.declared.state.State.{State}
use Rattle.peano_keys.specs.declared.side.Sides.{Sides}
use Rattle.peano_keys.specs.declared.side.Mark.{Mark}
use Rattle.peano_keys.specs.Cell.{IsCell, parent_of, key_cmp}
use Rattle.peano_keys.specs.Grid.{Spacetree, is_leaf, has_cell}
use Rattle.peano_keys.specs.Field.{States, state_at, value_of, sides_of}
use Rattle.peano_keys.specs.Next.{IsNextGrid}

-- what a solver makes of a leaf's state, its sides and its level: a new state, none where a value leaves its range
abbrev pub UpdateRule : Type 0
UpdateRule = State → Sides → ℕ → Option State

-- and the mark that it gives the leaf
abbrev pub MarkRule : Type 0
MarkRule = State → Sides → ℕ → Mark

-- a leaf of a grid: a cell of the domain that is a leaf
pub record IsLeafOf (t : Spacetree) (c : CellKey) : Type 0 where
  pub cell : IsCell t.dim c
  pub leaf : is_leaf t c ≡ true

-- the new state of a leaf, from its own state and its sides in the same field
abbrev pub new_state : UpdateRule → Spacetree → States → CellKey → Option State
new_state updated t f c = updated (state_at f c) (sides_of t f c) c.level

-- the marks of a field's leaves, from the same
abbrev pub marks_of : MarkRule → Spacetree → States → CellKey → Mark
marks_of marked t f c = marked (state_at f c) (sides_of t f c) c.level

-- the field that gives each leaf of a grid its new state, and has no other cell
pub record AreNewStates (updated : UpdateRule) (old : Spacetree)
    (before states : States) : Type 0 where
  pub updates : (c : CellKey) → IsLeafOf old c → IsSome (new_state updated old before c)
  pub leaves : (c : CellKey) → IsLeafOf old c → map.get states c ≡ new_state updated old before c
  pub others : (c : CellKey) → ¬ IsLeafOf old c → map.get states c ≡ None

-- the cell of the old grid from which a leaf of the next one takes its value: itself, or its parent after a split
abbrev pub source_of : Spacetree → CellKey → CellKey
source_of old c = if has_cell old c then c else parent_of c

-- one step: the next grid is made by the marks, and each of its leaves takes the value of its source in the field of new states, so a merged cell its mean
pub record IsStep (updated : UpdateRule) (marked : MarkRule) (old : Spacetree) (before : States)
    (new : Spacetree) (after : States) : Type 0 where
  pub states : States
  pub made : AreNewStates updated old before states
  pub grid : IsNextGrid old (marks_of marked old before) new
  pub leaves : (c : CellKey) → IsLeafOf new c
      → map.get after c ≡ Some (value_of old states (source_of old c))
  pub others : (c : CellKey) → ¬ IsLeafOf new c → map.get after c ≡ None

-- a step fails at a leaf: it has no new state, and each leaf before it in key order has one
pub record Overflows (updated : UpdateRule) (t : Spacetree) (f : States)
    (c : CellKey) : Type 0 where
  pub leaf : IsLeafOf t c
  pub failed : IsNone (new_state updated t f c)
  pub least : (b : CellKey) → IsLeafOf t b → key_cmp b c ≡ Less → IsSome (new_state updated t f b)
