-- The evaluation: step after step, to the end or to the first refusal.
use Rattle.std.specs.Prelude.{◌≡◌, ℕ, zero, suc, ◌<◌, ◌≤◌, IsSome}
use Rattle.peano_keys.specs.declared.cell.CellKey.{CellKey}
use Rattle.peano_keys.specs.Grid.{Spacetree}
use Rattle.peano_keys.specs.Field.{States}
use Rattle.peano_keys.specs.declared.side.Mark.{Mark}
use Rattle.peano_keys.specs.Next.{IsNextGrid}
use Rattle.solver_api.specs.Step.{UpdateRule, MarkRule, IsLeafOf, IsStep, Overflows, marks_of, new_state}
use Rattle.spacetree.specs.declared.limits.TheConstants.{MOST_CELLS}
use Rattle.spacetree.specs.declared.fault.EvalFault.{EvalFault}
use Rattle.spacetree.specs.declared.fault.EvalFault.TheVariants.{Overflow, Crowded, NoMemory}
use Rattle.spacetree.specs.Counts.{cells_of}

-- a step that is not refused: the grid that it leads to has at most 200,000 cells
pub record IsServedStep (updated : UpdateRule) (marked : MarkRule) (old : Spacetree)
    (before : States) (new : Spacetree) (after : States) : Type 0 where
  pub step : IsStep updated marked old before new after
  pub room : cells_of new ≤ MOST_CELLS

-- the next grid by some marks has so many cells, which are more than 200,000
pub record IsCrowded (old : Spacetree) (marks : CellKey → Mark) (cells : ℕ) : Type 0 where
  pub next : (new : Spacetree) × IsNextGrid old marks new × (cells_of new ≡ cells)
  pub crowded : MOST_CELLS < cells

-- a step is refused because the next grid has so many cells: no leaf of the old one overflows
pub record Crowds (updated : UpdateRule) (marked : MarkRule) (t : Spacetree) (f : States)
    (cells : ℕ) : Type 0 where
  pub updates : (c : CellKey) → IsLeafOf t c → IsSome (new_state updated t f c)
  pub grid : IsCrowded t (marks_of marked t f) cells

-- so many steps, none of them refused, lead from a grid and its field to others
abbrev pub Evaluates : UpdateRule → MarkRule → Spacetree → States → ℕ → Spacetree → States → Type 0
Evaluates updated marked t f zero t' f' = (t' ≡ t) × (f' ≡ f)
Evaluates updated marked t f (suc n) t' f' = (u : Spacetree) × (g : States)
    × Evaluates updated marked t f n u g × IsServedStep updated marked u g t' f'

-- the evaluation overflows in a step, at a leaf: the steps before it lead to a grid and a field whose least failing leaf that is
abbrev pub OverflowsIn : UpdateRule → MarkRule → Spacetree → States → ℕ → CellKey → Type 0
OverflowsIn updated marked t f zero c = ⊥
OverflowsIn updated marked t f (suc n) c = (u : Spacetree) × (g : States)
    × Evaluates updated marked t f n u g × Overflows updated u g c

-- the evaluation is crowded in a step, by so many cells: the steps before it lead to a grid and a field whose next grid is refused
abbrev pub CrowdsIn : UpdateRule → MarkRule → Spacetree → States → ℕ → ℕ → Type 0
CrowdsIn updated marked t f zero cells = ⊥
CrowdsIn updated marked t f (suc n) cells = (u : Spacetree) × (g : States)
    × Evaluates updated marked t f n u g × Crowds updated marked u g cells

-- none of so many steps overflows
abbrev pub NeverOverflows : UpdateRule → MarkRule → Spacetree → States → ℕ → Type 0
NeverOverflows updated marked t f steps = (s : ℕ) (c : CellKey) → s ≤ steps
    → ¬ OverflowsIn updated marked t f s c

-- none of so many steps is crowded
abbrev pub NeverCrowds : UpdateRule → MarkRule → Spacetree → States → ℕ → Type 0
NeverCrowds updated marked t f steps = (s cells : ℕ) → s ≤ steps
    → ¬ CrowdsIn updated marked t f s cells

-- what a step that was refused says: its number and the leaf at which it overflows, or its number and the size of the next grid, or that memory was wanting
abbrev pub StepFails : UpdateRule → MarkRule → Spacetree → States → ℕ → EvalFault → Type 0
StepFails updated marked t f step (Overflow s c) = (s ≡ step) × Overflows updated t f c
StepFails updated marked t f step (Crowded s cells) = (s ≡ step) × Crowds updated marked t f cells
StepFails updated marked t f step NoMemory = Unit {0}

-- what an evaluation of so many steps that ended early says: the step and the leaf in which it overflows, or the step and the size of the grid by which it is crowded, or that memory was wanting
abbrev pub EndsIn : UpdateRule → MarkRule → Spacetree → States → ℕ → EvalFault → Type 0
EndsIn updated marked t f steps (Overflow step c) = (step ≤ steps)
    × OverflowsIn updated marked t f step c
EndsIn updated marked t f steps (Crowded step cells) = (step ≤ steps)
    × CrowdsIn updated marked t f step cells
EndsIn updated marked t f steps NoMemory = Unit {0}
