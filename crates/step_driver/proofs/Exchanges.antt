-- An exchange between all trees.
use Rattle.std.proofs.Common.{◌≡◌, ℕ, ◌<◌, List, ap, sym, subst, ◌∙◌, arith, inl}
use Rattle.stack_law.specs.Once.{IsIn}
use Rattle.peano_keys.specs.Grid.{Spacetree}
use Rattle.peano_curve.specs.declared.order.Direction.{Direction}
use Rattle.curve_cuts.specs.Cuts.{Cuts, IsCutGrid, range_of}
use Rattle.step_phases.specs.declared.phase.Phase.{Phase}
use Rattle.step_phases.specs.Exchange.{IsExchanged}
use Rattle.tree_automaton.specs.TreeLists.{TreeLists}
use Rattle.tree_automaton.specs.AtRest.{plain_plan}
use Rattle.boundary_streams.specs.Sent.{Outgoing, sent_to}
use Rattle.boundary_streams.specs.Trees.{copies_of}
use Rattle.boundary_streams.specs.Collects.{IsCollected}
use Rattle.boundary_streams.specs.Merges.{IsMerged}
use Rattle.boundary_streams.specs.Exchanges.{IsBox, AreBoxes}
use Rattle.boundary_streams.proofs.Agrees.{exchange_takes_owners}
use Rattle.boundary_streams.proofs.Stored.{lists_hold_vertices, merge_keeps_lists}
use Rattle.step_driver.specs.Gives.{EachGives}
use Rattle.step_driver.specs.Stores.{no_store, store_of, AreTrees, AllMerged, AllHaveLists}
use Rattle.step_driver.specs.Boxes.{no_box, box_of, MergesBoxes}
use Rattle.step_driver.proofs.Places.{in_place, place_in}

-- all merged
module _ (phase : Phase) (k : Cuts) (boxes : List Outgoing) (before after : List TreeLists) (trees : AreTrees k before) (are : EachGives (IsCollected k) before boxes) (merges : EachGives (MergesBoxes phase k boxes) before after) where
  sender : (i : ℕ) → i < k.trees → (box_of boxes i).sender ≡ i
  sender i below = (are.each i no_store no_box (omega (arith, below, trees.count))).sender ∙ trees.number i below

  is_box : (o : Outgoing) → IsIn o boxes → IsBox k (store_of before) (store_of after) o
  is_box o there =
      let p = in_place no_box o boxes there in
      let below : p.0 < k.trees = omega (arith, p.1, are.count, trees.count) in
      let at : o.sender ≡ p.0 = ap (λ (b : Outgoing). b.sender) (sym p.2) ∙ sender p.0 below in
      record {
        tree = omega (arith, at, below);
        collected = inl (subst (λ n. IsCollected k (store_of before n) o) (sym at) (subst (IsCollected k (store_of before p.0)) p.2 (are.each p.0 no_store no_box (omega (arith, below, trees.count)))));
      }

  all_boxes : (t : ℕ) → AreBoxes k (store_of before) (store_of after) t boxes
  all_boxes t = record {
    sent = is_box;
    all = λ s below apart. (box_of boxes s, place_in no_box boxes s (omega (arith, below, are.count, trees.count)), sender s below);
  }

  pub merged_all : AllMerged phase k before after
  merged_all = record {
    count = merges.count ∙ trees.count;
    each = λ t below. record {
      boxes = boxes;
      are_boxes = all_boxes t;
      merged = subst (λ n. IsMerged phase k (sent_to boxes n) (store_of before t) (store_of after t)) (trees.number t below) (merges.each t no_store no_store (omega (arith, below, trees.count)));
    };
  }

-- stores with the lists of a grid can be exchanged
pub trees_from_lists : (k : Cuts) (dir : Direction) (g : Spacetree) (stores : List TreeLists) → IsCutGrid k g → AllHaveLists k dir g stores → AreTrees k stores
trees_from_lists k dir g stores fits h = record {
  count = h.count;
  number = λ t below. (h.each t below).tree;
  each = λ t below. (lists_hold_vertices k g t dir (store_of stores t) fits below (h.each t below)).0;
}

-- and keep them
pub lists_after : (phase : Phase) (k : Cuts) (dir : Direction) (g : Spacetree) (before after : List TreeLists) → AllHaveLists k dir g before → AllMerged phase k before after → AllHaveLists k dir g after
lists_after phase k dir g before after h all = record {
  count = all.count;
  each = λ t below.
      let m = all.each t below in
      merge_keeps_lists phase k (sent_to m.boxes t) (plain_plan k.depth (range_of k t) dir g) t (store_of before t) (store_of after t) m.merged (h.each t below);
}

-- and each copy takes the slots of the owners
pub owners_taken : (phase : Phase) (k : Cuts) (dir : Direction) (g : Spacetree) (before after : List TreeLists) → IsCutGrid k g → AllHaveLists k dir g before → AllMerged phase k before after → IsExchanged phase k g (copies_of (store_of before)) (copies_of (store_of after))
owners_taken phase k dir g before after fits h all = exchange_takes_owners phase k g (store_of before) (store_of after) fits (record {
  holds = λ t below. (lists_hold_vertices k g t dir (store_of before t) fits below (h.each t below)).1;
  merges = all.each;
})

-- no tale grows
pub tale_stays : (phase : Phase) (k : Cuts) (before after : List TreeLists) (t : ℕ) → t < k.trees → AllMerged phase k before after → (store_of after t).lanes.tale ≡ (store_of before t).lanes.tale
tale_stays phase k before after t below all = ap (λ (s : TreeLists). s.lanes.tale) (all.each t below).merged.rest
