-- The sums of shared cells over all trees: what each tree's store keeps.
use Rattle.std.proofs.Common.{◌≡◌, ℕ, ◌<◌, List, length, ap, sym, subst, ◌∙◌, arith}
use Rattle.peano_keys.specs.Grid.{Spacetree}
use Rattle.peano_curve.specs.declared.order.Direction.{Direction}
use Rattle.peano_records.specs.declared.partials.Partial.{Partial}
use Rattle.curve_cuts.specs.Cuts.{Cuts, range_of}
use Rattle.tree_automaton.specs.TreeLists.{TreeLists}
use Rattle.tree_automaton.specs.AtRest.{plain_plan}
use Rattle.boundary_streams.specs.Trees.{IsKeyOf, IsTreeOf}
use Rattle.shared_sums.specs.Adding.{CanAdd, TakesMeans}
use Rattle.step_sums.proofs.Added.{sums_keep_lists}
use Rattle.step_driver.specs.Gives.{EachGives}
use Rattle.step_driver.specs.Stores.{no_store, store_of, AreTrees, AllHaveLists}
use Rattle.step_driver.specs.Summing.{TakesSums, AllTakeSums, AllAdded}

module _ (k : Cuts) (all : List (List Partial)) where
  -- each store can be given the sums
  pub takes_at : (stores : List TreeLists) → AllTakeSums k all stores → (t : ℕ) → t < k.trees → TakesSums k all (store_of stores t)
  takes_at stores h t below = record {
    tree = h.trees.each t below;
    sums = subst (CanAdd k all) (sym (h.trees.number t below)) (h.each t below);
  }

  -- what each gave is so of all
  pub added_all : (before after : List TreeLists) → AllTakeSums k all before → EachGives (TakesMeans k all) before after → AllAdded k all before after
  added_all before after h gives = record {
    count = gives.count ∙ h.trees.count;
    each = λ t below. gives.each t no_store no_store (let count = h.trees.count in omega (arith, below, count));
  }

  -- a store that took them is one of the trees
  tree_still : (old new : TreeLists) → TakesMeans k all old new → IsTreeOf k old → IsTreeOf k new
  tree_still old new h v = record {
    live = ap (λ (s : TreeLists). s.live) h.rest ∙ v.live;
    dim = ap (λ (s : TreeLists). s.lanes.dim) h.rest ∙ v.dim;
    depth = ap (λ (s : TreeLists). s.depth) h.rest ∙ v.depth;
    tree = subst (λ n. n < k.trees) (sym (ap (λ (s : TreeLists). s.tree) h.rest)) v.tree;
    range = ap (λ (s : TreeLists). s.range) h.rest ∙ v.range ∙ ap (λ (s : TreeLists). range_of k s.tree) (sym h.rest);
    keys = λ i d below.
        let inside : i < length old.lanes.input = (let count = h.count in omega (arith, below, count)) in
        subst (IsKeyOf k) (sym (h.records i d inside).key) (v.keys i d inside);
  }

  module _ (before after : List TreeLists) (added : AllAdded k all before after) where
    -- so they can exchange
    pub added_trees : AreTrees k before → AreTrees k after
    added_trees h = record {
      count = added.count;
      number = λ t below. ap (λ (s : TreeLists). s.tree) (added.each t below).rest ∙ h.number t below;
      each = λ t below. tree_still (store_of before t) (store_of after t) (added.each t below) (h.each t below);
    }

    -- they keep the lists of the grid
    pub added_lists : (dir : Direction) (g : Spacetree) → AllHaveLists k dir g before → AllHaveLists k dir g after
    added_lists dir g h = record {
      count = added.count;
      each = λ t below. sums_keep_lists k all (plain_plan k.depth (range_of k t) dir g) t (store_of before t) (store_of after t) (added.each t below) (h.each t below);
    }

    -- and no tale grows
    pub added_tale : (t : ℕ) → t < k.trees → (store_of after t).lanes.tale ≡ (store_of before t).lanes.tale
    added_tale t below = ap (λ (s : TreeLists). s.lanes.tale) (added.each t below).rest
