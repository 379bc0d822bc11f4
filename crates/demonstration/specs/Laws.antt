-- What holds of each demonstration.
use Rattle.std.specs.Prelude.{◌≡◌, ℕ, ℤ, pos, negsuc, ◌≤◌, ◌≤ℤ◌, All, Some}
use Rattle.std.specs.Int.{w64}
use Rattle.std.specs.Int.RustNames.{FitsSigned}
use Rattle.peano_keys.specs.declared.cell.CellKey.{CellKey}
use Rattle.peano_keys.specs.declared.dim.Dim.TheVariants.{Two}
use Rattle.peano_keys.specs.declared.state.State.{State}
use Rattle.peano_keys.specs.declared.side.Side.{Side}
use Rattle.peano_keys.specs.declared.side.Side.TheVariants.{Edge, Same, Coarse}
use Rattle.peano_keys.specs.declared.side.Sides.{Sides}
use Rattle.peano_keys.specs.State.{value_at}
use Rattle.peano_keys.specs.Grid.{Spacetree}
use Rattle.peano_keys.specs.Field.{States, state_at}
use Rattle.solver_api.specs.Marks.{faces_of}
use Rattle.solver_api.specs.Step.{IsLeafOf}
use Rattle.volume_solver.specs.Any.{updated_by, marked_by}
use Rattle.spacetree.specs.Counts.{cells_of}
use Rattle.spacetree.specs.Build.{IsTooLarge}
use Rattle.spacetree.specs.Opening.{Opens, OpensField}
use Rattle.spacetree.specs.Evaluation.{Evaluates, NeverOverflows, NeverCrowds}
use Rattle.grid_file.specs.Valid.{IsPlan}
use Rattle.demonstration.specs.Demo.{demo, demo_solver}

-- the plan is one that a run takes
abbrev pub IsValid : Type 0
IsValid = (n : ℕ) → IsPlan (demo n)

-- the opening grid has at most 1,540 cells
abbrev pub OpensSmall : Type 0
OpensSmall = (n : ℕ) (t : Spacetree) → Opens (demo n).shape t → cells_of t ≤ 1540

-- so it is never too large to be built
abbrev pub NeverTooLarge : Type 0
NeverTooLarge = (n : ℕ) → ¬ IsTooLarge (demo n).shape

-- the first value of a state lies from `low` to `high`
pub record IsWithin (low high : ℤ) (s : State) : Type 0 where
  pub least : low ≤ℤ value_at s 0
  pub most : value_at s 0 ≤ℤ high

-- and so does what stands across a face, where there is anything
abbrev pub SeesWithin : ℤ → ℤ → Side → Type 0
SeesWithin low high Edge = Unit {0}
SeesWithin low high (Same s) = IsWithin low high s
SeesWithin low high (Coarse s) = IsWithin low high s

-- a leaf has a new value, and that lies where its own and those that it sees do: between the least and the greatest of them
abbrev pub StaysBetween : Type 0
StaysBetween = (low high : ℤ) (own : State) (sides : Sides) (level : ℕ) → FitsSigned w64 low
    → FitsSigned w64 high → level ≤ 5
    → IsWithin low high own → All (SeesWithin low high) (faces_of Two sides)
    → (new : State) × (updated_by demo_solver own sides level ≡ Some new) × IsWithin low high new

-- the values of a field lie from `low` to `high`
abbrev pub HasWithin : ℤ → ℤ → Spacetree → States → Type 0
HasWithin low high t f = (c : CellKey) → IsLeafOf t c → IsWithin low high (state_at f c)

-- the opening grid and the opening field of a demonstration
pub record Begins (n : ℕ) (t : Spacetree) (f : States) : Type 0 where
  pub grid : Opens (demo n).shape t
  pub field : OpensField t (demo n).fills 1 f

-- so many steps lead from a grid and its field to others
abbrev pub Leads : Spacetree → States → ℕ → Spacetree → States → Type 0
Leads = Evaluates (updated_by demo_solver) (marked_by demo_solver)

-- after any number of steps all values lie where the opening ones and 0 do
abbrev pub StaysThroughout : Type 0
StaysThroughout = (n steps : ℕ) (low high : ℤ) (t : Spacetree) (f : States) (u : Spacetree)
    (g : States)
    → FitsSigned w64 low → FitsSigned w64 high → low ≤ℤ pos 0 → pos 0 ≤ℤ high
    → Begins n t f → HasWithin low high t f → Leads t f steps u g → HasWithin low high u g

-- the opening values lie from -1000 to 1000
abbrev pub OpensWithin : Type 0
OpensWithin = (n : ℕ) (t : Spacetree) (f : States) → Begins n t f
    → HasWithin (negsuc 999) (pos 1000) t f

-- no step overflows, and none is crowded
abbrev pub NeverRefused : Type 0
NeverRefused = (n steps : ℕ) (t : Spacetree) (f : States) → Begins n t f
    → NeverOverflows (updated_by demo_solver) (marked_by demo_solver) t f steps
    × NeverCrowds (updated_by demo_solver) (marked_by demo_solver) t f steps
