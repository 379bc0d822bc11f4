-- How the sums stand in a step: what a secondary sweep by means and the sums after it change in slots.
use Rattle.std.specs.Prelude.{◌≡◌, ◌⊎◌, ℕ, ◌<◌, ◌≤◌, ℤ, Bool, true, false, List}
use Rattle.peano_keys.specs.declared.cell.CellKey.{CellKey}
use Rattle.peano_keys.specs.declared.state.State.{State}
use Rattle.peano_keys.specs.Cell.{IsCell}
use Rattle.peano_keys.specs.Grid.{Spacetree, is_refined, has_cell, is_leaf}
use Rattle.peano_keys.specs.Field.{States, component_of, value_of}
use Rattle.peano_records.specs.declared.slot.Slot.{Slot}
use Rattle.solver_api.specs.Step.{UpdateRule, MarkRule, marks_of}
use Rattle.spacetree.specs.Fields.{IsFieldOn}
use Rattle.curve_cuts.specs.Cuts.{Cuts, IsCutGrid, Owns}
use Rattle.curve_cuts.specs.Enclave.{IsSkeleton}
use Rattle.step_phases.specs.Stores.{Store, TreeSays}
use Rattle.step_phases.specs.Change.{Change}
use Rattle.step_phases.specs.Phases.{HasNext, AfterFirst}
use Rattle.step_phases.specs.Sweeps.{IsSwept, IsIntentOf, SecondaryChanges}
use Rattle.step_values.specs.Values.{change_by}
use Rattle.step_values.specs.Sums.{AfterPart, SumChanges}
use Rattle.peano_keys.specs.Sums.{cell_weight}
use Rattle.mean_values.specs.NextSums.{TellsMerges}
use Rattle.mean_values.specs.Steps.{IsMeanStep, HasFloors}
use Rattle.tree_sums.specs.Trees.{shared_by, shared_cell}
use Rattle.tree_sums.specs.Partials.{tree_partial}
use Rattle.tree_sums.specs.Totals.{ListsSharedMerging, corrected_total}

-- a step by means: how many values a state has, the rules of the solver, the old grid with its field and the field of new states, the next grid and field, a test of the merging cells, and a list of those that are shared
pub record MeanStep : Type 0 where
  pub parts : ℕ
  pub updated : UpdateRule
  pub marked : MarkRule
  pub old : Spacetree
  pub before : States
  pub states : States
  pub new : Spacetree
  pub after : States
  pub merging : CellKey → Bool
  pub cells : List CellKey

-- it is one, for the trees of cuts
pub record IsTreeStep (k : Cuts) (s : MeanStep) : Type 0 where
  pub fits : IsCutGrid k s.old
  pub step : IsMeanStep k.depth s.updated s.marked s.old s.before s.states s.new s.after
  pub field : IsFieldOn s.parts s.old s.states
  pub tells : TellsMerges s.old (marks_of s.marked s.old s.before) s.merging
  pub lists : ListsSharedMerging s.merging (shared_by k) s.cells

-- the change that it makes
abbrev pub mean_change : MeanStep → Change
mean_change s = change_by value_of s.updated s.marked s.old s.before s.new s.after

-- the partial sums of a cell in a tree, by component
abbrev pub partials_of : Cuts → MeanStep → ℕ → CellKey → ℕ → ℤ
partials_of k s t c i = tree_partial k s.old s.merging (component_of s.states i) t c

-- the corrected totals of a cell, by component
abbrev pub totals_of : Cuts → MeanStep → CellKey → ℕ → ℤ
totals_of k s c i = corrected_total k s.old s.merging (component_of s.states i) s.cells c

-- a state has the floors of the sums of a cell, by component
abbrev pub HasFloorsOf : Cuts → MeanStep → CellKey → (ℕ → ℤ) → State → Type 0
HasFloorsOf k s c sums v = HasFloors s.parts (cell_weight k.depth s.old.dim c) sums v

-- a cell that both grids of the step have
pub record IsInBoth (s : MeanStep) (c : CellKey) : Type 0 where
  pub cell : IsCell s.old.dim c
  pub here : has_cell s.old c ≡ true
  pub there : has_cell s.new c ≡ true

-- a state with the floors of the corrected totals of such a cell is its value in the next field
abbrev pub TotalsGiveValue : Type 0
TotalsGiveValue = (k : Cuts) (s : MeanStep) → IsTreeStep k s → (c : CellKey) (v : State)
    → IsInBoth s c → HasFloorsOf k s c (totals_of k s c) v → v ≡ value_of s.new s.after c

-- and where the cell is not shared, so is one with the floors of its owner's partial sums
abbrev pub OwnersGiveValue : Type 0
OwnersGiveValue = (k : Cuts) (s : MeanStep) → IsTreeStep k s → (t : ℕ) (c : CellKey) (v : State)
    → IsInBoth s c → Owns k t c → shared_by k c ≡ false
    → HasFloorsOf k s c (partials_of k s t c) v → v ≡ value_of s.new s.after c

-- a secondary sweep by means: skeleton leaves keep what they have, every other leaf is computed or gathered, and refined cells that are not shared take the floors of the tree's partial sums
pub record MeanSecondaryChanges (k : Cuts) (s : MeanStep) (t : ℕ) (c : CellKey)
    (old new : Slot) : Type 0 where
  pub status : new.status ≡ old.status
  pub value : new.value ≡ old.value
  pub mark : new.mark ≡ old.mark
  pub leaf : Owns k t c → is_leaf s.old c ≡ true
      → (IsSkeleton k s.old t c × (new.next ≡ old.next)) ⊎ HasNext (mean_change s) c new
  pub refined : Owns k t c → is_refined s.old c ≡ true → shared_by k c ≡ false
      → HasFloorsOf k s c (partials_of k s t c) new.next
  pub intent : Owns k t c → IsIntentOf s.old (marks_of s.marked s.old s.before) c new.intent

-- the sums after it: shared cells of the tree's own take the floors of their corrected totals
pub record AddedChanges (k : Cuts) (s : MeanStep) (t : ℕ) (c : CellKey)
    (old new : Slot) : Type 0 where
  pub status : new.status ≡ old.status
  pub value : new.value ≡ old.value
  pub mark : new.mark ≡ old.mark
  pub intent : new.intent ≡ old.intent
  pub kept : shared_cell k s.old c ≡ false → new.next ≡ old.next
  pub added : Owns k t c → shared_cell k s.old c ≡ true
      → HasFloorsOf k s c (totals_of k s c) new.next

-- after such a sweep a tree has the new value of each of its own cells but the shared ones
abbrev pub MeansLeaveOutShared : Type 0
MeansLeaveOutShared = (k : Cuts) (s : MeanStep) (t : ℕ) (before after : Store) → IsTreeStep k s
    → TreeSays k s.old t (AfterFirst k (mean_change s)) before
    → IsSwept k s.old t (MeanSecondaryChanges k s t) before after
    → TreeSays k s.old t (AfterPart k (mean_change s) (shared_cell k s.old) t) after

-- and the sums give it these
abbrev pub AddedGiveShared : Type 0
AddedGiveShared = (k : Cuts) (s : MeanStep) (t : ℕ) (before after : Store) → IsTreeStep k s
    → IsSwept k s.old t (AddedChanges k s t) before after
    → IsSwept k s.old t (SumChanges k (mean_change s) (shared_cell k s.old) t) before after

-- so the two together are a secondary sweep by the change of the step
abbrev pub MeansMakeSecondary : Type 0
MeansMakeSecondary = (k : Cuts) (s : MeanStep) (t : ℕ) (s0 s1 s2 : Store) → IsTreeStep k s
    → TreeSays k s.old t (AfterFirst k (mean_change s)) s0
    → IsSwept k s.old t (MeanSecondaryChanges k s t) s0 s1
    → IsSwept k s.old t (AddedChanges k s t) s1 s2
    → IsSwept k s.old t (SecondaryChanges k (mean_change s) t) s0 s2
