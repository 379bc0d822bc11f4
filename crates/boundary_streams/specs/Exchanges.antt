-- An exchange between all trees.
use Rattle.std.specs.Prelude.{◌≡◌, ◌≢◌, ◌⊎◌, ℕ, ◌<◌, List}
use Rattle.peano_keys.specs.Grid.{Spacetree}
use Rattle.curve_cuts.specs.Cuts.{Cuts}
use Rattle.stack_law.specs.Once.{IsIn}
use Rattle.step_phases.specs.declared.phase.Phase.{Phase}
use Rattle.tree_automaton.specs.TreeLists.{TreeLists}
use Rattle.boundary_streams.specs.Sent.{Outgoing, sent_to}
use Rattle.boundary_streams.specs.Trees.{HoldsVertices}
use Rattle.boundary_streams.specs.Collects.{IsCollected}
use Rattle.boundary_streams.specs.Merges.{IsMerged}

-- a box that a tree collected, before its own merge or after it
pub record IsBox (k : Cuts) (before after : ℕ → TreeLists) (o : Outgoing) : Type 0 where
  pub tree : o.sender < k.trees
  pub collected : IsCollected k (before o.sender) o ⊎ IsCollected k (after o.sender) o

-- boxes for a tree: those of all other trees, in any order
pub record AreBoxes (k : Cuts) (before after : ℕ → TreeLists) (t : ℕ)
    (boxes : List Outgoing) : Type 0 where
  pub sent : (o : Outgoing) → IsIn o boxes → IsBox k before after o
  pub all : (s : ℕ) → s < k.trees → s ≢ t → (o : Outgoing) × IsIn o boxes × (o.sender ≡ s)

-- a tree merged what the others sent
pub record HasMerged (phase : Phase) (k : Cuts) (before after : ℕ → TreeLists)
    (t : ℕ) : Type 0 where
  pub boxes : List Outgoing
  pub are_boxes : AreBoxes k before after t boxes
  pub merged : IsMerged phase k (sent_to boxes t) (before t) (after t)

-- all trees exchange what they have: their stores hold the stored vertices of one grid, and each merges what the others sent
pub record IsExchange (phase : Phase) (k : Cuts) (g : Spacetree)
    (before after : ℕ → TreeLists) : Type 0 where
  pub holds : (t : ℕ) → t < k.trees → HoldsVertices k g t (before t)
  pub merges : (t : ℕ) → t < k.trees → HasMerged phase k before after t
