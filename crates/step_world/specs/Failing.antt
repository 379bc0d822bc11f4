-- The least failing leaf, tree by tree and together.
use Rattle.std.specs.Prelude.{◌≡◌, ℕ, ◌<◌, Option, Some, None, IsSome, IsNone}
use Rattle.std.specs.declared.cmp.Ordering.TheVariants.{Less}
use Rattle.peano_keys.specs.declared.cell.CellKey.{CellKey}
use Rattle.peano_keys.specs.declared.state.State.{State}
use Rattle.peano_keys.specs.Cell.{key_cmp}
use Rattle.peano_keys.specs.Grid.{Spacetree}
use Rattle.peano_keys.specs.Field.{States}
use Rattle.solver_api.specs.Step.{UpdateRule, IsLeafOf, Overflows, new_state}
use Rattle.curve_cuts.specs.Cuts.{Cuts, Owns, IsCutGrid}

-- a leaf of the tree's own that has no new state, while each before it in key order has one
pub record IsLeastOfTree (k : Cuts) (updated : UpdateRule) (g : Spacetree) (f : States) (t : ℕ)
    (c : CellKey) : Type 0 where
  pub leaf : IsLeafOf g c
  pub owned : Owns k t c
  pub failed : IsNone (new_state updated g f c)
  pub least : (b : CellKey) → IsLeafOf g b → Owns k t b → key_cmp b c ≡ Less
      → IsSome (new_state updated g f b)

-- what a tree tells of its own leaves: none fails, or this is the least that does
abbrev pub FailsInTree : Cuts → UpdateRule → Spacetree → States → ℕ → Option CellKey → Type 0
FailsInTree k updated g f t None = (b : CellKey) → IsLeafOf g b → Owns k t b
    → IsSome (new_state updated g f b)
FailsInTree k updated g f t (Some c) = IsLeastOfTree k updated g f t c

-- of the cells of some kind the least in key order that has no new value
pub record IsLeastOf (P : CellKey → Type 0) (next : CellKey → Option State)
    (c : CellKey) : Type 0 where
  pub kind : P c
  pub failed : IsNone (next c)
  pub least : (b : CellKey) → P b → key_cmp b c ≡ Less → IsSome (next b)

-- what is told of the cells of some kind: each has a new value, or this is the least that has none
abbrev pub FailsAmong : (CellKey → Type 0) → (CellKey → Option State) → Option CellKey → Type 0
FailsAmong P next None = (c : CellKey) → P c → IsSome (next c)
FailsAmong P next (Some c) = IsLeastOf P next c

-- what is so of all leaves
abbrev pub Fails : UpdateRule → Spacetree → States → Option CellKey → Type 0
Fails updated g f None = (c : CellKey) → IsLeafOf g c → IsSome (new_state updated g f c)
Fails updated g f (Some c) = Overflows updated g f c

-- the least of what so many trees found
abbrev pub IsLeastFound : ℕ → (ℕ → Option CellKey) → Option CellKey → Type 0
IsLeastFound trees found None = (s : ℕ) → s < trees → found s ≡ None
IsLeastFound trees found (Some c) = ((t : ℕ) × (t < trees) × (found t ≡ Some c))
    × ((s : ℕ) (b : CellKey) → s < trees → found s ≡ Some b → ¬ (key_cmp b c ≡ Less))

-- the least of the trees' failing leaves is the least of all
abbrev pub LeastOverTrees : Type 0
LeastOverTrees = (k : Cuts) (updated : UpdateRule) (g : Spacetree) (f : States)
    (found : ℕ → Option CellKey) (failing : Option CellKey)
    → IsCutGrid k g → ((t : ℕ) → t < k.trees → FailsInTree k updated g f t (found t))
    → IsLeastFound k.trees found failing → Fails updated g f failing
