-- A step between grids of a depth: what the field of new states gives of the next field.
use Rattle.std.specs.Prelude.{◌≡◌, ℕ, ◌-◌, ◌<◌, ◌≤◌, ℤ, Bool, true}
use Rattle.peano_keys.specs.declared.cell.CellKey.{CellKey}
use Rattle.peano_keys.specs.declared.state.State.{State}
use Rattle.peano_keys.specs.Cell.{IsCell}
use Rattle.peano_keys.specs.State.{count_of, value_at}
use Rattle.peano_keys.specs.Grid.{Spacetree, IsGrid, has_cell}
use Rattle.peano_keys.specs.Sums.{cell_weight, floor_of}
use Rattle.peano_keys.specs.Field.{States, component_of, value_of}
use Rattle.solver_api.specs.Step.{UpdateRule, MarkRule, IsStep, AreNewStates, marks_of}
use Rattle.spacetree.specs.Fields.{IsFieldOn}
use Rattle.mean_values.specs.NextSums.{next_sum, TellsMerges, AreNextNumbers}

-- a field of new states is one alone
abbrev pub OneFieldOfNewStates : Type 0
OneFieldOfNewStates = (updated : UpdateRule) (old : Spacetree) (before a b : States)
    → AreNewStates updated old before a → AreNewStates updated old before b → a ≡ b

-- a step between grids of a depth, with the field of new states of the old leaves
pub record IsMeanStep (depth : ℕ) (updated : UpdateRule) (marked : MarkRule) (old : Spacetree)
    (before states : States) (new : Spacetree) (after : States) : Type 0 where
  pub deepest : depth ≤ 12
  pub old_grid : IsGrid depth old
  pub new_grid : IsGrid depth new
  pub made : AreNewStates updated old before states
  pub step : IsStep updated marked old before new after

-- the components of its next field are next numbers
abbrev pub StepGivesNumbers : Type 0
StepGivesNumbers = (depth parts : ℕ) (updated : UpdateRule) (marked : MarkRule)
    (old : Spacetree) (before states : States) (new : Spacetree) (after : States)
    → IsMeanStep depth updated marked old before states new after → IsFieldOn parts old states
    → (i : ℕ) → i < parts
    → AreNextNumbers depth old new (component_of states i) (component_of after i)

-- and it is a field on the next grid, with states of as many values
abbrev pub NextFieldIsField : Type 0
NextFieldIsField = (depth parts : ℕ) (updated : UpdateRule) (marked : MarkRule)
    (old : Spacetree) (before states : States) (new : Spacetree) (after : States)
    → IsMeanStep depth updated marked old before states new after → IsFieldOn parts old states
    → IsFieldOn parts new after

-- a state whose components are the floors of sums
pub record HasFloors (parts w : ℕ) (sum : ℕ → ℤ) (s : State) : Type 0 where
  pub count : count_of s ≡ parts
  pub each : (i : ℕ) → i < parts → value_at s i ≡ floor_of (sum i) w

-- a state with the floors of the next sums of a cell is the value of the cell in the next field
abbrev pub SumsGiveValue : Type 0
SumsGiveValue = (depth parts : ℕ) (updated : UpdateRule) (marked : MarkRule)
    (old : Spacetree) (before states : States) (new : Spacetree) (after : States)
    (merging : CellKey → Bool)
    → IsMeanStep depth updated marked old before states new after → IsFieldOn parts old states
    → TellsMerges old (marks_of marked old before) merging
    → (c : CellKey) (s : State) → IsCell old.dim c → c.level ≤ depth → has_cell old c ≡ true
    → has_cell new c ≡ true
    → HasFloors parts (cell_weight depth old.dim c)
    (λ i. next_sum old merging (component_of states i) (depth - c.level) c) s
    → s ≡ value_of new after c
