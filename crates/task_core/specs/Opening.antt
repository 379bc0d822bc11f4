-- A core at the opening of a step: where it comes from, and that it has all leaves.
use Rattle.std.specs.Prelude.{◌≡◌, ◌⊎◌, ℕ, List, [], slice_get, Some}
use Rattle.std.specs.FinMap as fin
use Rattle.peano_keys.specs.declared.cell.CellKey.{CellKey}
use Rattle.peano_keys.specs.Grid.{Spacetree}
use Rattle.peano_keys.specs.Field.{States, state_at, sides_of}
use Rattle.solver_api.specs.Step.{IsLeafOf}
use Rattle.task_core.specs.declared.stop.Leaf.{Leaf}
use Rattle.task_core.specs.declared.stop.Stop.{Stop}
use Rattle.task_core.specs.declared.stop.Stop.TheVariants.{Pass, Compute, Offer}
use Rattle.task_core.specs.declared.event.Sweep.TheVariants.{First}
use Rattle.task_core.specs.Core.{Tree, Core}

-- a fact of each member of a list
abbrev pub Each : {X : Type 0} → (X → Type 0) → List X → Type 0
Each P xs = (i : ℕ) (x : _) → slice_get xs i ≡ Some x → P x

-- some member of a list is this one
abbrev pub IsIn : {X : Type 0} → X → List X → Type 0
IsIn x xs = (i : ℕ) × (slice_get xs i ≡ Some x)

module _ (g : Spacetree) (f : States) where
  -- a leaf with its state and its sides in the opening field
  pub record IsOpeningLeaf (l : Leaf) : Type 0 where
    pub own : l.own ≡ state_at f l.key
    pub sides : l.sides ≡ sides_of g f l.key

  -- a visit of such a leaf, or one that passes by
  abbrev pub IsOpeningStop : Stop → Type 0
  IsOpeningStop Pass = Unit {0}
  IsOpeningStop (Compute l) = IsOpeningLeaf l
  IsOpeningStop (Offer l) = IsOpeningLeaf l

  -- a tree that has made no visit and has no task
  pub record OpensTree (t : Tree) : Type 0 where
    pub first : Each IsOpeningStop t.first
    pub second : Each IsOpeningStop t.second
    pub made : t.made ≡ 0
    pub tasks : t.tasks ≡ []

  -- the first sweep begins, and no leaf has an answer
  pub record Opens (c : Core) : Type 0 where
    pub sweep : c.sweep ≡ First
    pub trees : Each OpensTree c.trees
    pub answers : c.answers ≡ fin.empty

  -- each leaf of the grid is computed in the first sweep of some tree, or offered in the second sweep of some tree
  pub record Covers (trees : List Tree) (c : CellKey) : Type 0 where
    pub leaf : Leaf
    pub key : leaf.key ≡ c
    pub tree : Tree
    pub is : IsIn tree trees
    pub stop : IsIn (Compute leaf) tree.first ⊎ IsIn (Offer leaf) tree.second

  -- so is each leaf of the grid
  abbrev pub CoversAll : Core → Type 0
  CoversAll c = (k : CellKey) → IsLeafOf g k → Covers c.trees k
