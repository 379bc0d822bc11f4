-- Next grids and next fields: which trees they are for, and how many values their states have.
use Rattle.std.specs.Prelude.{◌≡◌, ◌<◌, ℕ, Some}
use Rattle.peano_keys.specs.declared.cell.CellKey.{CellKey}
use Rattle.peano_keys.specs.declared.state.State.{State}
use Rattle.peano_keys.specs.declared.side.Sides.{Sides}
use Rattle.peano_keys.specs.declared.side.Mark.{Mark}
use Rattle.peano_keys.specs.declared.side.Mark.TheVariants.{Keep, Refine}
use Rattle.peano_keys.specs.State.{count_of}
use Rattle.peano_keys.specs.Grid.{Spacetree, IsGrid}
use Rattle.peano_keys.specs.Field.{States}
use Rattle.peano_keys.specs.Next.{IsNextGrid}
use Rattle.solver_api.specs.Step.{UpdateRule, MarkRule, IsStep, AreNewStates}
use Rattle.solver_api.specs.Parts.{HaveParts}
use Rattle.spacetree.specs.Fields.{IsFieldOn}
use Rattle.curve_cuts.specs.Cuts.{Cuts, IsCutGrid}

-- the next grid is one for the same trees
abbrev pub NextIsCut : Type 0
NextIsCut = (k : Cuts) (old new : Spacetree) (marks : CellKey → Mark) → IsCutGrid k old
    → IsNextGrid old marks new → ((c : CellKey) → marks c ≡ Refine → c.level < k.depth)
    → IsCutGrid k new

-- a solver's new states have as many values as the old ones
abbrev pub KeepsParts : ℕ → UpdateRule → Type 0
KeepsParts parts updated = (own : State) (sides : Sides) (level : ℕ) (new : State)
    → HaveParts parts own sides → updated own sides level ≡ Some new → count_of new ≡ parts

-- then the new states of the leaves of a grid are a field on it, with states of as many values
abbrev pub NewStatesAreField : Type 0
NewStatesAreField = (parts : ℕ) (updated : UpdateRule) (g : Spacetree) (f states : States)
    → IsGrid 12 g → IsFieldOn parts g f → KeepsParts parts updated → AreNewStates updated g f states
    → IsFieldOn parts g states

-- and so is the next field on the next grid
abbrev pub StepKeepsParts : Type 0
StepKeepsParts = (parts : ℕ) (updated : UpdateRule) (marked : MarkRule) (g : Spacetree) (f : States)
    (new : Spacetree) (after : States)
    → IsGrid 12 g → IsFieldOn parts g f → KeepsParts parts updated
    → IsStep updated marked g f new after → IsFieldOn parts new after

-- where each leaf is to be kept, the next grid is the grid itself
abbrev pub KeptGridStays : Type 0
KeptGridStays = (g new : Spacetree) (marks : CellKey → Mark) → ((c : CellKey) → marks c ≡ Keep)
    → IsNextGrid g marks new → new ≡ g
