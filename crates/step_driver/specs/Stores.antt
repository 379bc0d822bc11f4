-- The stores of all trees, by number.
use Rattle.std.specs.Prelude.{◌≡◌, ℕ, ◌<◌, false, pos, List, [], length, slice_index_or}
use Rattle.peano_keys.specs.declared.dim.Dim.TheVariants.{Two}
use Rattle.peano_keys.specs.Grid.{Spacetree}
use Rattle.peano_keys.specs.Field.{States}
use Rattle.peano_curve.specs.declared.order.Direction.{Direction}
use Rattle.peano_curve.specs.declared.order.Direction.TheVariants.{Forward}
use Rattle.curve_cuts.specs.Cuts.{Cuts, range_of}
use Rattle.vertex_stacks.specs.Lists.{nothing_moved}
use Rattle.step_phases.specs.declared.phase.Phase.{Phase}
use Rattle.tree_automaton.specs.TreeLists.{TreeLists}
use Rattle.tree_automaton.specs.AtRest.{HasLists, StandsFor, plain_plan}
use Rattle.boundary_streams.specs.Trees.{IsTreeOf}
use Rattle.boundary_streams.specs.Exchanges.{HasMerged}

-- what stands where no store is
abbrev pub no_store : TreeLists
no_store = record {
  cells = [];
  written = [];
  lanes = nothing_moved Two (pos 0);
  depth = 0;
  range = record { lo = 0; hi = 0 };
  tree = 0;
  dir = Forward;
  live = false;
  cell_room = 0;
  stored = 0;
  leaves = 0;
  counted = 0;
}

-- the store of a tree
abbrev pub store_of : List TreeLists → ℕ → TreeLists
store_of stores t = slice_index_or stores t no_store

-- one store for each tree, by number, from which each tree can send and into which it can take over
pub record AreTrees (k : Cuts) (stores : List TreeLists) : Type 0 where
  pub count : length stores ≡ k.trees
  pub number : (t : ℕ) → t < k.trees → (store_of stores t).tree ≡ t
  pub each : (t : ℕ) → t < k.trees → IsTreeOf k (store_of stores t)

-- the store of each of so many trees is changed as asked
pub record ChangesEach (R : ℕ → TreeLists → TreeLists → Type 0) (trees : ℕ)
    (before after : List TreeLists) : Type 0 where
  pub count : length after ≡ trees
  pub changed : (t : ℕ) → t < trees → R t (store_of before t) (store_of after t)

-- all trees merged what the others sent
pub record AllMerged (phase : Phase) (k : Cuts) (before after : List TreeLists) : Type 0 where
  pub count : length after ≡ k.trees
  pub each : (t : ℕ) → t < k.trees → HasMerged phase k (store_of before) (store_of after) t

-- the store of each tree has the lists that a sweep of its tree over a grid reads, all in one direction
pub record AllHaveLists (k : Cuts) (dir : Direction) (g : Spacetree)
    (stores : List TreeLists) : Type 0 where
  pub count : length stores ≡ k.trees
  pub each : (t : ℕ) → t < k.trees
      → HasLists (plain_plan k.depth (range_of k t) dir g) t (store_of stores t)

-- the store of each tree stands for a grid and a field, all to be read in one direction
pub record AllStandFor (k : Cuts) (dir : Direction) (g : Spacetree) (f : States)
    (stores : List TreeLists) : Type 0 where
  pub count : length stores ≡ k.trees
  pub each : (t : ℕ) → t < k.trees → StandsFor k.depth (range_of k t) t dir g f (store_of stores t)
