-- The change that a step makes, by the value of cells in the old and in the next field.
use Rattle.std.specs.Prelude.{◌≡◌, true, false, Some, if◌then◌else◌}
use Rattle.peano_keys.specs.declared.cell.CellKey.{CellKey}
use Rattle.peano_keys.specs.declared.state.State.{State}
use Rattle.peano_keys.specs.Cell.{IsCell, parent_of}
use Rattle.peano_keys.specs.Grid.{Spacetree, IsGrid, has_cell, is_leaf}
use Rattle.peano_keys.specs.Field.{States, state_at, value_of}
use Rattle.solver_api.specs.Step.{UpdateRule, MarkRule, IsLeafOf, IsStep, new_state, marks_of}
use Rattle.step_phases.specs.Change.{Change, IsChange}

-- what gives each cell of a grid with a field its value
abbrev pub ValueRule : Type 0
ValueRule = Spacetree → States → CellKey → State

-- the change of a step by such a rule: the new value of a cell is its value in the next field, and that of a leaf which the next grid does not have is its new state
abbrev pub change_by : ValueRule → UpdateRule → MarkRule → Spacetree → States → Spacetree → States
    → Change
change_by value updated marked g f new after = record {
  old = g;
  new = new;
  value = value g f;
  mark = marks_of marked g f;
  next = λ c. if has_cell new c then Some (value new after c) else new_state updated g f c;
  last = value new after;
}

-- the change of a step
abbrev pub change_of : UpdateRule → MarkRule → Spacetree → States → Spacetree → States → Change
change_of updated marked g f new after = change_by value_of updated marked g f new after

-- what a rule owes to a step: the value of a leaf is its state
abbrev pub ShowsLeaves : ValueRule → Type 0
ShowsLeaves value = (g : Spacetree) (f : States) (c : CellKey) → is_leaf g c ≡ true
    → value g f c ≡ state_at f c

-- and a leaf that is split has as value the one of each of its children
abbrev pub SplitsEvenly : ValueRule → Spacetree → Spacetree → States → Type 0
SplitsEvenly value g new after = (c : CellKey) → IsCell g.dim c → has_cell g c ≡ false
    → has_cell new c ≡ true → value new after (parent_of c) ≡ value new after c

-- then a step makes a change
abbrev pub AnyValueIsChange : Type 0
AnyValueIsChange = (value : ValueRule) (updated : UpdateRule) (marked : MarkRule) (g : Spacetree)
    (f : States) (new : Spacetree) (after : States)
    → IsGrid 12 g → IsGrid 12 new → IsStep updated marked g f new after
    → SplitsEvenly value g new after → IsChange (change_by value updated marked g f new after)

-- in which the new value of a leaf is what the solver makes of it
abbrev pub AnyLeafTakesNewState : Type 0
AnyLeafTakesNewState = (value : ValueRule) (updated : UpdateRule) (marked : MarkRule)
    (g : Spacetree) (f : States) (new : Spacetree) (after : States)
    → IsGrid 12 g → IsGrid 12 new → IsStep updated marked g f new after → ShowsLeaves value
    → SplitsEvenly value g new after → (c : CellKey) → IsLeafOf g c
    → (change_by value updated marked g f new after).next c ≡ new_state updated g f c

-- the value of a cell shows the states of leaves
abbrev pub ValueShowsLeaves : Type 0
ValueShowsLeaves = ShowsLeaves value_of

-- and splits evenly in a step
abbrev pub ValueSplitsEvenly : Type 0
ValueSplitsEvenly = (updated : UpdateRule) (marked : MarkRule) (g : Spacetree) (f : States)
    (new : Spacetree) (after : States)
    → IsGrid 12 g → IsGrid 12 new → IsStep updated marked g f new after
    → SplitsEvenly value_of g new after

-- so the change of a step is one
abbrev pub StepIsChange : Type 0
StepIsChange = (updated : UpdateRule) (marked : MarkRule) (g : Spacetree) (f : States)
    (new : Spacetree) (after : States)
    → IsGrid 12 g → IsGrid 12 new → IsStep updated marked g f new after
    → IsChange (change_of updated marked g f new after)

-- in which the new value of a leaf is what the solver makes of it
abbrev pub LeafTakesNewState : Type 0
LeafTakesNewState = (updated : UpdateRule) (marked : MarkRule) (g : Spacetree) (f : States)
    (new : Spacetree) (after : States)
    → IsGrid 12 g → IsGrid 12 new → IsStep updated marked g f new after → (c : CellKey)
    → IsLeafOf g c → (change_of updated marked g f new after).next c ≡ new_state updated g f c
