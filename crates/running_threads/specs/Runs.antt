-- A run of a pool in one step, as its threads make it: each tree's own happenings are those of its sweeps, in any order beside those of other trees and of helpers. What a run is names no core.
use Rattle.std.specs.Prelude.{◌≡◌, ℕ, ◌+◌, ◌<◌, List, [], ◌∷◌, length, Some, slice_get}
use Rattle.peano_keys.specs.Grid.{Spacetree}
use Rattle.peano_keys.specs.Field.{States}
use Rattle.peano_curve.specs.declared.order.Direction.{Direction}
use Rattle.curve_cuts.specs.Cuts.{Cuts, IsCutGrid}
use Rattle.result_table.specs.declared.updates.Updates.{Ghosts}
use Rattle.result_table.specs.Seats.{size_of}
use Rattle.solver_api.specs.Step.{UpdateRule}
use Rattle.task_core.specs.Core.{Core, run}
use Rattle.task_core.specs.Visits.{Begins}
use Rattle.task_pool.specs.declared.parts.Tree.{Tree}
use Rattle.task_pool.specs.declared.parts.Pool.{Pool}
use Rattle.pool_events.specs.Moments.{Moment}
use Rattle.pool_events.specs.Deeds.{Deed, task_of, Does}
use Rattle.pool_events.specs.Manned.{IsNew}
use Rattle.pool_events.specs.Histories.{Happening, Visits, Exchanges, Spawns, Steals, Deeds, AreMoments, Rests, OthersRest, events_told, at_end}
use Rattle.running_threads.specs.Places.{Progress, at_start, Goes}

-- a point of a run: what has just happened, how far the step has come then, and the moments of its trees
pub record Point (S : Type 0) (g : Ghosts S) : Type 0 where
  pub happening : Happening
  pub progress : Progress
  pub moments : ℕ → Moment S g

module _ {S : Type 0} {g : Ghosts S} where
  -- a hand has spawned one task more, and no word of its tree's desk changed
  pub record SpawnsOne (m n : Moment S g) : Type 0 where
    pub words : n.desk.words ≡ m.desk.words
    pub more : n.spawned ≡ m.spawned + 1

  -- a seat of a tree's desk did a deed, at a task that the desk has a place for
  pub record DoesOne (t : Tree S g) (d : Deed) (m n : Moment S g) : Type 0 where
    pub task : task_of d < size_of t.desk
    pub does : Does d m.desk n.desk
    pub spawned : n.spawned ≡ m.spawned

  -- what happens to the desks and hands of a pool; what is in the deques may have changed besides
  abbrev pub Changes : Pool S g → Happening → (ℕ → Moment S g) → (ℕ → Moment S g) → Type 0
  Changes p (Visits i) ms ns = (j : ℕ) → Rests (ms j) (ns j)
  Changes p Exchanges ms ns = (j : ℕ) → Rests (ms j) (ns j)
  Changes p (Spawns i) ms ns = SpawnsOne (ms i) (ns i) × OthersRest i ms ns
  Changes p (Steals i) ms ns = (j : ℕ) → Rests (ms j) (ns j)
  Changes p (Deeds i d) ms ns = (t : Tree S g) × (slice_get p.trees.items i ≡ Some t)
      × DoesOne t d (ms i) (ns i) × OthersRest i ms ns

  -- what happens and the moments beside it, without the places of trees
  abbrev pub history_of : List (Point S g) → List (Happening × (ℕ → Moment S g))
  history_of [] = []
  history_of (x ∷ xs) = (x.happening, x.moments) ∷ history_of xs

  -- how far the step has come after the last of some points, or before where there is none
  abbrev pub progress_after : Progress → List (Point S g) → Progress
  progress_after a [] = a
  progress_after a (x ∷ xs) = progress_after x.progress xs

  module _ (k : Cuts) (grid : Spacetree) (dir : Direction) where
    -- each happening of a list leads the trees on, and changes the pool as it does, from one moment to the next
    abbrev pub IsRun : Pool S g → Progress → (ℕ → Moment S g) → List (Point S g) → Type 0
    IsRun p a ms [] = Unit {0}
    IsRun p a ms (x ∷ xs) = AreMoments p x.moments × Goes k grid dir x.happening a x.progress
        × Changes p x.happening ms x.moments × IsRun p x.progress x.moments xs

  -- a step begins: a grid for these trees, a core that begins with the step, and a pool that has a tree for each of the trees and of which no task was spawned or collected
  pub record StepBegins (k : Cuts) (grid : Spacetree) (f : States) (dir : Direction) (p : Pool S g)
      (c : Core) (ms : ℕ → Moment S g) : Type 0 where
    pub cut : IsCutGrid k grid
    pub core : Begins k grid f dir c
    pub trees : length p.trees.items ≡ k.trees
    pub moments : AreMoments p ms
    pub new : (i : ℕ) (t : Tree S g) → slice_get p.trees.items i ≡ Some t → IsNew (ms i)

  -- A run of a pool from the beginning of a step on, to whatever point: a first part of a run is a run.
  pub record StepRun (p : Pool S g) : Type 0 where
    pub cuts : Cuts
    pub grid : Spacetree
    pub field : States
    pub dir : Direction
    pub core : Core
    pub moments : ℕ → Moment S g
    pub points : List (Point S g)
    pub begins : StepBegins cuts grid field dir p core moments
    pub run : IsRun cuts grid dir p (at_start cuts grid dir) moments points

  -- the core that ran the events of a run
  abbrev pub core_told : {p : Pool S g} → UpdateRule → StepRun p → Core
  core_told updated r = run updated r.core (events_told (history_of r.points))

  -- how far the step has come after some first points of a run
  abbrev pub progress_at : {p : Pool S g} → StepRun p → List (Point S g) → Progress
  progress_at r before = progress_after (at_start r.cuts r.grid r.dir) before

  -- the moments of its trees then
  abbrev pub moments_at : {p : Pool S g} → StepRun p → List (Point S g) → ℕ → Moment S g
  moments_at r before = at_end r.moments (history_of before)

  -- how far it has come at the end of the run
  abbrev pub progress_of : {p : Pool S g} → StepRun p → Progress
  progress_of r = progress_at r r.points

  -- the moments of its trees then
  abbrev pub moments_of : {p : Pool S g} → StepRun p → ℕ → Moment S g
  moments_of r = moments_at r r.points
