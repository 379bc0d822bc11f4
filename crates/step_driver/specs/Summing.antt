-- The sums of shared cells over all trees, between the secondary sweeps and the second exchange.
use Rattle.std.specs.Prelude.{◌≡◌, ℕ, ◌<◌, List, length}
use Rattle.curve_cuts.specs.Cuts.{Cuts}
use Rattle.peano_records.specs.declared.partials.Partial.{Partial}
use Rattle.tree_automaton.specs.TreeLists.{TreeLists}
use Rattle.boundary_streams.specs.Trees.{IsTreeOf}
use Rattle.step_phases.specs.declared.phase.Phase.TheVariants.{Second}
use Rattle.shared_sums.specs.Adding.{CanAdd, TakesMeans}
use Rattle.step_driver.specs.Stores.{store_of, AreTrees, AllMerged}

-- the store of one of the trees to which the partials of all trees can be added
pub record TakesSums (k : Cuts) (all : List (List Partial)) (s : TreeLists) : Type 0 where
  pub tree : IsTreeOf k s
  pub sums : CanAdd k all s.tree

-- so are the stores of all trees
pub record AllTakeSums (k : Cuts) (all : List (List Partial))
    (stores : List TreeLists) : Type 0 where
  pub trees : AreTrees k stores
  pub each : (t : ℕ) → t < k.trees → CanAdd k all t

-- all trees added the partials: each of its shared cells has the mean of its total in the owner's store
pub record AllAdded (k : Cuts) (all : List (List Partial))
    (before after : List TreeLists) : Type 0 where
  pub count : length after ≡ k.trees
  pub each : (t : ℕ) → t < k.trees → TakesMeans k all (store_of before t) (store_of after t)

-- then they exchanged what each cell is to become
pub record IsSettled (k : Cuts) (all : List (List Partial))
    (before after : List TreeLists) : Type 0 where
  pub added : List TreeLists
  pub sums : AllAdded k all before added
  pub second : AllMerged Second k added after
