-- What each of several trees sums up of a cell: the new numbers of the leaves of its own.
use Rattle.std.specs.Prelude.{◌≡◌, ℕ, zero, suc, ◌-◌, ◌<◌, ◌≤◌, ℤ, pos, ◌-ℤ◌, ◌*ℤ◌, Bool, true, false, not, ◌&&◌, if◌then◌else◌, List}
use Rattle.peano_keys.specs.declared.cell.CellKey.{CellKey}
use Rattle.peano_keys.specs.declared.side.Mark.{Mark}
use Rattle.peano_keys.specs.Cell.{IsCell, IsDigits, child_of}
use Rattle.peano_keys.specs.Grid.{Spacetree, IsGrid, is_refined, has_cell}
use Rattle.curve_cuts.specs.Cuts.{Cuts, IsCutGrid, Held}
use Rattle.peano_keys.specs.Sums.{over_children, over_first, weight}
use Rattle.mean_values.specs.NextSums.{rounded, handed_up, next_sum, TellsMerges}
use Rattle.tree_sums.specs.Trees.{owned_by, shared_by}

-- a cell that merges and is not shared
abbrev pub alone : (CellKey → Bool) → (CellKey → Bool) → CellKey → Bool
alone merging shared c = merging c && not (shared c)

-- the partial sum of a cell: of the new numbers of the leaves below it that one tree owns times weight, with merging cells that are not shared in place of their leaves
abbrev pub partial_sum : Spacetree → (CellKey → Bool) → (CellKey → Bool) → (CellKey → Bool)
    → (CellKey → ℤ) → ℕ → CellKey → ℤ
partial_sum g merging shared owned now zero c =
    if owned c then now c *ℤ pos (weight g.dim zero) else pos 0
partial_sum g merging shared owned now (suc levels) c =
    if is_refined g c
    then over_children g.dim (λ k. handed_up g.dim (alone merging shared) levels (child_of c k)
    (partial_sum g merging shared owned now levels (child_of c k)))
    else (if owned c then now c *ℤ pos (weight g.dim (suc levels)) else pos 0)

-- the total of a cell: the sum of its partial sums over the trees
abbrev pub total_sum : Spacetree → (CellKey → Bool) → (CellKey → Bool) → ℕ
    → (ℕ → CellKey → Bool) → (CellKey → ℤ) → ℕ → CellKey → ℤ
total_sum g merging shared trees owned now levels c =
    over_first trees (λ t. partial_sum g merging shared (owned t) now levels c)

-- what a shared merging cell adds to the totals of the cells above it: the rest that its own floor takes away
abbrev pub correction : ℤ → ℕ → ℤ
correction total w = rounded total w -ℤ total

-- the partial sum of a cell in a tree of cuts
abbrev pub tree_partial : Cuts → Spacetree → (CellKey → Bool) → (CellKey → ℤ) → ℕ → CellKey
    → ℤ
tree_partial k g merging now t c =
    partial_sum g merging (shared_by k) (owned_by k t) now (k.depth - c.level) c

-- and its total
abbrev pub tree_total : Cuts → Spacetree → (CellKey → Bool) → (CellKey → ℤ) → CellKey → ℤ
tree_total k g merging now c = over_first k.trees (λ t. tree_partial k g merging now t c)

-- trees over a grid: each cell has one owner, and all below a cell that is not shared is its owner's and not shared
pub record AreTreesOver (g : Spacetree) (trees : ℕ) (owned : ℕ → CellKey → Bool)
    (shared : CellKey → Bool) : Type 0 where
  pub owner : (c : CellKey) → IsCell g.dim c → has_cell g c ≡ true
      → (t : ℕ) × (t < trees) × (owned t c ≡ true)
  pub one : (c : CellKey) (t s : ℕ) → owned t c ≡ true → owned s c ≡ true → t ≡ s
  pub whole : (c : CellKey) (k : List ℕ) → is_refined g c ≡ true → IsDigits g.dim k
      → shared c ≡ false → shared (child_of c k) ≡ false
  pub kept : (c : CellKey) (k : List ℕ) (t : ℕ) → is_refined g c ≡ true → IsDigits g.dim k
      → shared c ≡ false → owned t (child_of c k) ≡ owned t c

-- the trees of cuts are such trees
abbrev pub CutsAreTrees : Type 0
CutsAreTrees = (k : Cuts) (g : Spacetree) → IsCutGrid k g
    → AreTreesOver g k.trees (owned_by k) (shared_by k)

-- the owner's partial sum of a cell that is not shared is the sum of the cell
abbrev pub OwnersSum : Type 0
OwnersSum = (depth : ℕ) (g : Spacetree) (marks : CellKey → Mark)
    (merging shared : CellKey → Bool) (trees : ℕ) (owned : ℕ → CellKey → Bool)
    (now : CellKey → ℤ)
    → depth ≤ 12 → IsGrid depth g → TellsMerges g marks merging
    → AreTreesOver g trees owned shared
    → (t levels : ℕ) (c : CellKey) → IsCell g.dim c → has_cell g c ≡ true → shared c ≡ false
    → owned t c ≡ true
    → partial_sum g merging shared (owned t) now levels c ≡ next_sum g merging now levels c

-- a tree has nothing of a cell that it does not hold
abbrev pub UnheldIsNothing : Type 0
UnheldIsNothing = (k : Cuts) (g : Spacetree) (merging : CellKey → Bool) (now : CellKey → ℤ)
    (t : ℕ) (c : CellKey)
    → IsCutGrid k g → IsCell g.dim c → has_cell g c ≡ true → ¬ Held k t c
    → tree_partial k g merging now t c ≡ pos 0
