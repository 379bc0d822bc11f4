-- One step of all trees: the part that computes, the part that settles, the part that adapts, and where they lead.
use Rattle.std.specs.Prelude.{◌≡◌, ℕ, ◌++◌, Bool, List, [], Option, Result, Ok, Err}
use Rattle.peano_keys.specs.declared.cell.CellKey.{CellKey}
use Rattle.peano_keys.specs.Grid.{Spacetree}
use Rattle.peano_keys.specs.Field.{States}
use Rattle.peano_keys.specs.Next.{IsNextGrid}
use Rattle.peano_curve.specs.declared.order.Direction.{Direction}
use Rattle.solver_api.specs.Step.{marks_of}
use Rattle.spacetree.specs.declared.fault.EvalFault.{EvalFault}
use Rattle.spacetree.specs.declared.fault.EvalFault.TheVariants.{Overflow, Crowded, NoMemory}
use Rattle.spacetree.specs.Evaluation.{IsServedStep, StepFails}
use Rattle.curve_cuts.specs.Cuts.{Cuts}
use Rattle.peano_records.specs.declared.partials.Partial.{Partial}
use Rattle.vertex_stacks.specs.Notes.{Note}
use Rattle.sweep_visits.specs.Runs.{turned_round}
use Rattle.tree_automaton.specs.TreeLists.{TreeLists}
use Rattle.step_phases.specs.declared.phase.Phase.TheVariants.{First, Third}
use Rattle.step_phases.specs.Change.{Change}
use Rattle.step_world.specs.Notes.{computing_notes}
use Rattle.step_sweeps.specs.Kernels.{Kernel}
use Rattle.step_driver.specs.declared.finishing.Findings.{Findings}
use Rattle.step_driver.specs.declared.stepping.Stepped.{Stepped}
use Rattle.step_driver.specs.declared.working.Twice.{Twice}
use Rattle.step_driver.specs.Stores.{AllMerged}
use Rattle.step_driver.specs.Notes.{sizes_of, added_notes, AddsFirst}
use Rattle.step_driver.specs.Computing.{AllStandOn, AreComputed, least_with}
use Rattle.step_driver.specs.Finishing.{AllMarked, AreFinished}
use Rattle.step_driver.specs.Adapting.{AreAdapted}
use Rattle.step_driver.specs.Worlds.{AreAt}

-- The part of a step that computes, with the stores between: primary sweeps and the first exchange, then secondary sweeps, of whatever change is marked;
-- the partials that these hand out, and what the trees found in both.
pub record IsComputedStep (kernel : Kernel) (k : Cuts) (dir : Direction) (g : Spacetree)
    (f : States) (step : ℕ) (before after : List TreeLists) (partials : List (List Partial))
    (old new : List Note) (found : Findings) : Type 0 where
  pub swept : List TreeLists
  pub marked : List TreeLists
  pub noted : List Note
  pub early : Option CellKey
  pub late : Findings
  pub primary : AreComputed kernel k dir g f step before swept old noted early
  pub first : AllMerged First k swept marked
  pub secondary : (w : Change) → AllMarked kernel k (turned_round dir) w f marked
      → AreFinished k kernel.parts (turned_round dir) w step marked after partials noted new late
  pub failing : found.failing ≡ least_with early late.failing
  pub turnover : found.turnover ≡ late.turnover

-- Both sweeps of a step, and the exchange between them, whatever grid and field the trees stood for: their stores, their partials, their notes, and what they found.
pub record IsSweptTwice (kernel : Kernel) (k : Cuts) (dir : Direction) (g : Spacetree) (f : States)
    (step : ℕ) (before : List TreeLists) (r : Twice) : Type 0 where
  pub swept : List TreeLists
  pub marked : List TreeLists
  pub noted : List Note
  pub primary : AreComputed kernel k dir g f step before swept [] noted r.early
  pub first : AllMerged First k swept marked
  pub secondary : (w : Change) → AllMarked kernel k (turned_round dir) w f marked
      → AreFinished k kernel.parts (turned_round dir) w step marked
      r.stores.items r.partials.items noted r.notes.items r.late

-- so it is for each grid and field that the trees may have stood for
abbrev pub SweptTwice : Kernel → Cuts → ℕ → List TreeLists → Twice → Type 0
SweptTwice kernel k step before r = (dir : Direction) (g : Spacetree) (f : States)
    → AllStandOn k kernel.parts dir g f before → IsSweptTwice kernel k dir g f step before r

-- the part that adapts: adaptation sweeps and the third exchange
pub record IsAdaptedStep (k : Cuts) (dir : Direction) (w : Change) (step : ℕ)
    (before after : List TreeLists) (old new : List Note) : Type 0 where
  pub adapted : List TreeLists
  pub sweeps : AreAdapted k dir w step before adapted old new
  pub third : AllMerged Third k adapted after

-- the trees took a step: they are at the next grid and field, and have its notes
pub record TookStep (kernel : Kernel) (adapts : Bool) (k : Cuts) (g : Spacetree) (f : States)
    (step : ℕ) (stores : List TreeLists) (old new : List Note) (cells : ℕ) : Type 0 where
  pub grid : Spacetree
  pub field : States
  pub served : IsServedStep kernel.updated kernel.marked g f grid field
  pub at : AreAt kernel.parts k stores new cells grid field
  pub noted : new ≡ old ++ added_notes k adapts step g grid

-- the trees were refused a step: by an overflow or by too many cells once all have computed, else in the midst of it
abbrev pub StoppedStep : Kernel → Bool → Cuts → Spacetree → States → ℕ → List Note → List Note
    → EvalFault → Type 0
StoppedStep kernel adapts k g f step old new (Overflow s c) =
    StepFails kernel.updated kernel.marked g f step (Overflow s c)
    × (new ≡ old ++ computing_notes (sizes_of k) k.trees step g)
StoppedStep kernel adapts k g f step old new (Crowded s n) =
    StepFails kernel.updated kernel.marked g f step (Crowded s n)
    × (new ≡ old ++ computing_notes (sizes_of k) k.trees step g)
StoppedStep kernel adapts k g f step old new NoMemory = (h : Spacetree)
    × IsNextGrid g (marks_of kernel.marked g f) h
    × AddsFirst old new (added_notes k adapts step g h)

-- one of both, by the answer: the stores of the trees and how many cells the next grid has, or why there is none
abbrev pub IsStepTaken : Kernel → Bool → Cuts → Spacetree → States → ℕ → List Note → List Note
    → Result Stepped EvalFault → Type 0
IsStepTaken kernel adapts k g f step old new (Ok after) =
    TookStep kernel adapts k g f step after.stores.items old new after.cells
IsStepTaken kernel adapts k g f step old new (Err e) =
    StoppedStep kernel adapts k g f step old new e
