-- The adaptation sweeps of all trees.
use Rattle.std.specs.Prelude.{◌≡◌, ℕ, ◌<◌, List, ◌++◌, length}
use Rattle.peano_keys.specs.Grid.{Spacetree}
use Rattle.peano_curve.specs.declared.order.Direction.{Direction}
use Rattle.curve_cuts.specs.Cuts.{Cuts, IsCutGrid, range_of}
use Rattle.vertex_stacks.specs.Notes.{Note}
use Rattle.vertex_stacks.specs.Tales.{with_note}
use Rattle.sweep_visits.specs.Runs.{turned_round}
use Rattle.tree_automaton.specs.TreeLists.{TreeLists}
use Rattle.tree_automaton.specs.AtRest.{HasLists, plain_plan}
use Rattle.step_phases.specs.Change.{Change}
use Rattle.step_phases.specs.Sweeps.{IsAdapted}
use Rattle.swept_slots.specs.Copies.{copies}
use Rattle.adapt_sweep.specs.Adapting.{CanBeAdapted, IsAdaptedTree}
use Rattle.step_world.specs.Notes.{note_adapted, by_trees}
use Rattle.step_driver.specs.declared.beside.Swept.{Swept}
use Rattle.step_driver.specs.Stores.{store_of, ChangesEach}
use Rattle.step_driver.specs.Notes.{sizes_of}

-- the store of each tree stands before the adaptation that a change makes, and all are read in one direction
pub record AllCanAdapt (k : Cuts) (dir : Direction) (w : Change)
    (stores : List TreeLists) : Type 0 where
  pub grid : IsCutGrid k w.new
  pub count : length stores ≡ k.trees
  pub number : (t : ℕ) → t < k.trees → (store_of stores t).tree ≡ t
  pub way : (t : ℕ) → t < k.trees → (store_of stores t).dir ≡ dir
  pub each : (t : ℕ) → t < k.trees → CanBeAdapted k w (store_of stores t)

-- for some change to a grid
abbrev pub AllCanTake : Cuts → Spacetree → List TreeLists → Type 0
AllCanTake k new stores = (dir : Direction) × (w : Change) × (w.new ≡ new)
    × AllCanAdapt k dir w stores

-- the store of a tree stands before an adaptation to a grid
abbrev pub CanTake : Cuts → Spacetree → TreeLists → Type 0
CanTake k new x = (w : Change) × (w.new ≡ new) × CanBeAdapted k w x

-- what the adaptation sweep of one tree to a grid gives, whatever change leads there
abbrev pub Adapts : Cuts → Spacetree → ℕ → TreeLists → Swept Unit → Type 0
Adapts k new step x r = (w : Change) → w.new ≡ new → CanBeAdapted k w x
    → IsAdaptedTree k w step x r.store r.note

-- what an adaptation sweep makes of the store of a tree: it has the lists of the new grid, read the other way; its copies are adapted; and the tale has one note more
pub record IsAdaptedStore (k : Cuts) (dir : Direction) (w : Change) (step t : ℕ)
    (before after : TreeLists) : Type 0 where
  pub lists : HasLists (plain_plan k.depth (range_of k t) (turned_round dir) w.new) t after
  pub slots : IsAdapted k w t (copies before.lanes.input) (copies after.lanes.input)
  pub tale : after.lanes.tale
      ≡ with_note before.lanes.tale (note_adapted (sizes_of k) step w.old w.new t)

-- so the stores of all trees, and their notes
pub record AreAdapted (k : Cuts) (dir : Direction) (w : Change) (step : ℕ)
    (before after : List TreeLists) (old notes : List Note) : Type 0 where
  pub trees : ChangesEach (IsAdaptedStore k dir w step) k.trees before after
  pub noted : notes ≡ old ++ by_trees k.trees (note_adapted (sizes_of k) step w.old w.new)
