-- The primary sweeps of all trees.
use Rattle.std.specs.Prelude.{◌≡◌, ℕ, ◌<◌, List, ◌++◌, length, Option, Some, None}
use Rattle.peano_keys.specs.declared.cell.CellKey.{CellKey}
use Rattle.peano_keys.specs.Grid.{Spacetree}
use Rattle.peano_keys.specs.Field.{States}
use Rattle.peano_curve.specs.declared.order.Direction.{Direction}
use Rattle.curve_cuts.specs.Cuts.{Cuts, IsCutGrid}
use Rattle.curve_cuts.specs.Keys.{CutPoints, cuts_of}
use Rattle.curve_cuts.specs.Enclave.{IsSkeleton}
use Rattle.solver_api.specs.Step.{new_state}
use Rattle.vertex_stacks.specs.declared.kind.Kind.TheVariants.{Primary}
use Rattle.vertex_stacks.specs.Notes.{Note}
use Rattle.vertex_stacks.specs.Tales.{with_note}
use Rattle.sweep_visits.specs.Runs.{turned_round}
use Rattle.tree_automaton.specs.TreeLists.{TreeLists}
use Rattle.step_phases.specs.Change.{Change}
use Rattle.step_phases.specs.Sweeps.{IsSwept, PrimaryChanges}
use Rattle.swept_slots.specs.Copies.{copies}
use Rattle.step_world.specs.Failing.{FailsAmong, IsLeastFound}
use Rattle.step_world.specs.Notes.{note_over, by_trees}
use Rattle.step_sweeps.specs.declared.tally.Tally.{Tally}
use Rattle.step_sweeps.specs.Kernels.{Kernel, IsChangeBy, least_of}
use Rattle.step_sweeps.specs.Sweeps.{StandsOn, CanStep, IsPrimarySwept}
use Rattle.step_sweeps.specs.Tasks.{TasksSeen}
use Rattle.step_driver.specs.declared.beside.Swept.{Swept}
use Rattle.step_driver.specs.declared.computing.Job.{Job}
use Rattle.step_driver.specs.Stores.{store_of, ChangesEach}
use Rattle.step_driver.specs.Notes.{sizes_of}

-- the store of each tree stands for a grid and a field whose states have so many values, all to be read in one direction
pub record AllStandOn (k : Cuts) (parts : ℕ) (dir : Direction) (g : Spacetree) (f : States)
    (stores : List TreeLists) : Type 0 where
  pub grid : IsCutGrid k g
  pub count : length stores ≡ k.trees
  pub number : (t : ℕ) → t < k.trees → (store_of stores t).tree ≡ t
  pub each : (t : ℕ) → t < k.trees → StandsOn k parts dir g f (store_of stores t)

-- for some grid and field
abbrev pub AllCanStep : Cuts → ℕ → List TreeLists → Type 0
AllCanStep k parts stores = (dir : Direction) × (g : Spacetree) × (f : States)
    × AllStandOn k parts dir g f stores

-- the least leaf that was found, with one more that may have been
abbrev pub least_with : Option CellKey → Option CellKey → Option CellKey
least_with found None = found
least_with found (Some c) = Some (least_of found c)

-- what the primary sweep of one tree gives, whatever its store stood for
abbrev pub Computes : Kernel → Cuts → ℕ → TreeLists → Swept Tally → Type 0
Computes kernel k step x r = (dir : Direction) (g : Spacetree) (f : States)
    → StandsOn k kernel.parts dir g f x
    → IsPrimarySwept kernel k dir g f step x r.store r.note r.found

-- what is seen of a job: a tree's store and its tasks, and the solver, the keys and the step of its sweep
pub record JobSeen (S : Type 0) : Type 0 where
  pub store : TreeLists
  pub tasks : TasksSeen S
  pub solver : S
  pub keys : CutPoints
  pub step : ℕ

-- a job as it is seen
abbrev pub seen_job : {S : Type 0} → Job S → JobSeen S
seen_job x =
    record {
      store = x.store;
      tasks = x.tasks;
      solver = x.solver.now;
      keys = x.keys.now;
      step = x.step;
    }

-- the job that is made of a tree
abbrev pub job_for : {S : Type 0} → S → CutPoints → ℕ → TreeLists × TasksSeen S → JobSeen S
job_for solver keys step x =
    record { store = x.0; tasks = x.1; solver = solver; keys = keys; step = step }

-- a job of a tree that can be swept, with tasks of its solver
abbrev pub CanCompute : {S : Type 0} → ℕ → JobSeen S → Type 0
CanCompute parts job = CanStep (cuts_of job.keys) parts job.store × (job.tasks.solver ≡ job.solver)

-- what its primary sweep gives: tasks of that solver, and the swept tree
abbrev pub ComputesJob : {S : Type 0} → Kernel → JobSeen S → TasksSeen S × Swept Tally → Type 0
ComputesJob kernel job r = (r.0.solver ≡ job.solver)
    × Computes kernel (cuts_of job.keys) job.step job.store r.1

-- what a primary sweep makes of the store of a tree: it stands for the same grid and field, read the other way; each leaf of the tree's own has its mark
-- and each skeleton leaf its new value in the tree's copies; and the tale has one note more
pub record IsComputedTree (kernel : Kernel) (k : Cuts) (dir : Direction) (g : Spacetree)
    (f : States) (step t : ℕ) (before after : TreeLists) : Type 0 where
  pub number : after.tree ≡ t
  pub stands : StandsOn k kernel.parts (turned_round dir) g f after
  pub slots : (w : Change) → IsChangeBy kernel g f w
      → IsSwept k g t (PrimaryChanges k w t) (copies before.lanes.input) (copies after.lanes.input)
  pub tale : after.lanes.tale
      ≡ with_note before.lanes.tale (note_over (sizes_of k) step Primary g t)

-- the notes of the first trees, and the least of the skeleton leaves that fail in them
pub record ToldFirst (kernel : Kernel) (k : Cuts) (g : Spacetree) (f : States) (step m : ℕ)
    (old new : List Note) (failing : Option CellKey) : Type 0 where
  pub noted : new ≡ old ++ by_trees m (note_over (sizes_of k) step Primary g)
  pub found : ℕ → Option CellKey
  pub tells : (t : ℕ) → t < m
      → FailsAmong (IsSkeleton k g t) (new_state kernel.updated g f) (found t)
  pub least : IsLeastFound m found failing

-- the stores of all trees were swept; their notes, and the least of the skeleton leaves that fail
pub record AreComputed (kernel : Kernel) (k : Cuts) (dir : Direction) (g : Spacetree) (f : States)
    (step : ℕ) (before after : List TreeLists) (old new : List Note)
    (failing : Option CellKey) : Type 0 where
  pub trees : ChangesEach (IsComputedTree kernel k dir g f step) k.trees before after
  pub told : ToldFirst kernel k g f step k.trees old new failing
