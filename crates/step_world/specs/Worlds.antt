-- What the stores of all trees stand for, and where a step or a run leads them.
use Rattle.std.specs.Prelude.{◌≡◌, ℕ, ◌+◌, ◌<◌, Result, Ok, Err}
use Rattle.peano_keys.specs.declared.state.State.{State}
use Rattle.peano_keys.specs.declared.side.Sides.{Sides}
use Rattle.peano_keys.specs.declared.side.Mark.TheVariants.{Keep, Refine}
use Rattle.peano_keys.specs.Grid.{Spacetree}
use Rattle.peano_keys.specs.Field.{States, value_of}
use Rattle.solver_api.specs.Step.{UpdateRule, MarkRule, IsStep}
use Rattle.spacetree.specs.Fields.{HasLeaves}
use Rattle.spacetree.specs.Evaluation.{Evaluates, EndsIn, IsServedStep, StepFails}
use Rattle.spacetree.specs.declared.fault.EvalFault.{EvalFault}
use Rattle.curve_cuts.specs.Cuts.{Cuts, IsCutGrid}
use Rattle.step_phases.specs.declared.phase.Phase.TheVariants.{Third, Opening}
use Rattle.step_phases.specs.Stores.{Stores, AllSay}
use Rattle.step_phases.specs.Phases.{AtRest}
use Rattle.step_phases.specs.Exchange.{IsExchanged}
use Rattle.step_phases.specs.Sweeps.{IsRaised, IsAdapted}
use Rattle.step_phases.specs.SweepLaws.{Steps}
use Rattle.step_values.specs.Values.{change_of}

-- the stores stand for a grid and a field on it
pub record StandFor (k : Cuts) (stores : Stores) (g : Spacetree) (f : States) : Type 0 where
  pub fits : IsCutGrid k g
  pub field : HasLeaves g f
  pub rest : AllSay k g (λ t. AtRest g (value_of g f)) stores

-- a solver refines only above a depth
abbrev pub RefinesAbove : MarkRule → ℕ → Type 0
RefinesAbove marked depth = (own : State) (sides : Sides) (level : ℕ)
    → marked own sides level ≡ Refine → level < depth

-- a solver without a criterion keeps each leaf
abbrev pub KeepsAll : MarkRule → Type 0
KeepsAll marked = (own : State) (sides : Sides) (level : ℕ) → marked own sides level ≡ Keep

-- stores stand for one grid and one field
abbrev pub StandForOne : Type 0
StandForOne = (k : Cuts) (stores : Stores) (g h : Spacetree) (f e : States) → StandFor k stores g f
    → StandFor k stores h e → (g ≡ h) × (f ≡ e)

-- raised stores, after the opening exchange, stand for the grid and the field that they were raised from
abbrev pub StartStands : Type 0
StartStands = (k : Cuts) (g : Spacetree) (f : States) (before after : Stores) → IsCutGrid k g
    → HasLeaves g f → ((t : ℕ) → IsRaised k g (value_of g f) t (before t))
    → IsExchanged Opening k g before after → StandFor k after g f

-- where a step is not refused, its sweeps and exchanges lead to stores that stand for the next grid and field
abbrev pub StepStands : Type 0
StepStands = (updated : UpdateRule) (marked : MarkRule) (k : Cuts) (g : Spacetree) (f : States)
    (new : Spacetree) (after : States) (s0 s1 s2 s3 s4 s5 s6 : Stores)
    → StandFor k s0 g f → RefinesAbove marked k.depth → IsStep updated marked g f new after
    → Steps k (change_of updated marked g f new after) s0 s1 s2 s3 s4
    → ((t : ℕ) → IsAdapted k (change_of updated marked g f new after) t (s4 t) (s5 t))
    → IsExchanged Third k new s5 s6 → StandFor k s6 new after

-- so they do without an adaptation, where the solver keeps each leaf
abbrev pub PlainStepStands : Type 0
PlainStepStands = (updated : UpdateRule) (marked : MarkRule) (k : Cuts) (g : Spacetree) (f : States)
    (new : Spacetree) (after : States) (s0 s1 s2 s3 s4 : Stores)
    → StandFor k s0 g f → KeepsAll marked → IsStep updated marked g f new after
    → Steps k (change_of updated marked g f new after) s0 s1 s2 s3 s4 → StandFor k s4 new after

-- stores stand for a grid and a field to which a step leads
abbrev pub StandAfter : UpdateRule → MarkRule → Cuts → Spacetree → States → Stores → Type 0
StandAfter updated marked k g f stores = (new : Spacetree) × (after : States)
    × IsServedStep updated marked g f new after × StandFor k stores new after

-- after so many steps the stores stand for the grid and the field of the evaluation
abbrev pub Reached : UpdateRule → MarkRule → Cuts → Spacetree → States → ℕ → Stores → Type 0
Reached updated marked k g f steps stores = (new : Spacetree) × (after : States)
    × Evaluates updated marked g f steps new after × StandFor k stores new after

-- or it was refused where the evaluation is
abbrev pub HasRun : UpdateRule → MarkRule → Cuts → Spacetree → States → ℕ → Stores
    → Result Unit EvalFault → Type 0
HasRun updated marked k g f steps stores (Ok u) = Reached updated marked k g f steps stores
HasRun updated marked k g f steps stores (Err e) = EndsIn updated marked g f steps e

-- one more step, of whatever the stores stand for, is one more step of the evaluation
abbrev pub RunGoesOn : Type 0
RunGoesOn = (updated : UpdateRule) (marked : MarkRule) (k : Cuts) (g : Spacetree) (f : States)
    (steps : ℕ) (before after : Stores)
    → Reached updated marked k g f steps before
    → ((h : Spacetree) (e : States) → StandFor k before h e → StandAfter updated marked k h e after)
    → Reached updated marked k g f (steps + 1) after

-- and where it is refused, so is the evaluation
abbrev pub RunEnds : Type 0
RunEnds = (updated : UpdateRule) (marked : MarkRule) (k : Cuts) (g : Spacetree) (f : States)
    (steps all : ℕ) (stores : Stores) (fault : EvalFault)
    → Reached updated marked k g f steps stores → steps < all
    → ((h : Spacetree) (e : States) → StandFor k stores h e
    → StepFails updated marked h e (steps + 1) fault)
    → EndsIn updated marked g f all fault
