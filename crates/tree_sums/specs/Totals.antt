-- The totals of shared cells, and what shared merging cells add to those of the cells above them.
use Rattle.std.specs.Prelude.{◌≡◌, ◌↔◌, ℕ, suc, ◌-◌, ◌<◌, ◌≤◌, ℤ, pos, ◌+ℤ◌, Bool, true, false, ◌&&◌, ◌||◌, nat_lt, if◌then◌else◌, List}
use Rattle.std.specs.Ordering.{eq_by_cmp}
use Rattle.peano_keys.specs.declared.dim.Dim.{Dim}
use Rattle.peano_keys.specs.declared.cell.CellKey.{CellKey}
use Rattle.peano_keys.specs.declared.side.Mark.{Mark}
use Rattle.peano_keys.specs.Cell.{IsCell, IsDigits, child_of, key_cmp}
use Rattle.peano_keys.specs.Grid.{Spacetree, IsGrid, is_refined, has_cell}
use Rattle.spacetree.specs.Build.{ancestor_of}
use Rattle.spacetree.specs.Counts.{EachOnce}
use Rattle.spacetree.specs.Leaves.{is_among}
use Rattle.curve_cuts.specs.Cuts.{Cuts, IsCutGrid}
use Rattle.peano_keys.specs.Sums.{cell_weight}
use Rattle.mean_values.specs.NextSums.{next_sum, TellsMerges}
use Rattle.mean_values.specs.Lists.{list_sum}
use Rattle.tree_sums.specs.Trees.{shared_by}
use Rattle.tree_sums.specs.Partials.{alone, total_sum, tree_total, correction, AreTreesOver}

-- a cell lies strictly above another
abbrev pub IsAbove : CellKey → CellKey → Type 0
IsAbove c m = (j : ℕ) × (j < m.level) × (ancestor_of (suc j) m ≡ c)

-- whether it does
abbrev pub is_above : CellKey → CellKey → Bool
is_above c m = nat_lt c.level m.level
    && eq_by_cmp key_cmp (ancestor_of (m.level - c.level) m) c

-- the test is right
abbrev pub AboveIsTold : Type 0
AboveIsTold = (c m : CellKey) → (is_above c m ≡ true) ↔ IsAbove c m

-- what one merging cell adds to a cell by the totals: its correction where the cell lies above it, else nothing
abbrev pub added_by : ℕ → Dim → (CellKey → ℤ) → CellKey → CellKey → ℤ
added_by depth dim total c m =
    if is_above c m then correction (total m) (cell_weight depth dim m) else pos 0

-- the total of a cell with the corrections of the merging cells of a list
abbrev pub corrected : ℕ → Dim → (CellKey → ℤ) → List CellKey → CellKey → ℤ
corrected depth dim total cells c = total c +ℤ list_sum (added_by depth dim total c) cells

-- a list of the cells that merge and are shared, each once
pub record ListsSharedMerging (merging shared : CellKey → Bool)
    (cells : List CellKey) : Type 0 where
  pub once : EachOnce cells
  pub members : (c : CellKey) → is_among cells c ≡ (merging c && shared c)

-- the corrected total of a cell for the trees of cuts
abbrev pub corrected_total : Cuts → Spacetree → (CellKey → Bool) → (CellKey → ℤ) → List CellKey
    → CellKey → ℤ
corrected_total k g merging now cells c =
    corrected k.depth g.dim (tree_total k g merging now) cells c

-- whatever the order of the list, it is the sum of the cell: of the new numbers of all leaves below it, with each merging cell strictly below in place of its leaves
abbrev pub CorrectedTotalsAreSums : Type 0
CorrectedTotalsAreSums = (k : Cuts) (g : Spacetree) (marks : CellKey → Mark)
    (merging : CellKey → Bool) (now : CellKey → ℤ) (cells : List CellKey)
    → IsCutGrid k g → TellsMerges g marks merging → ListsSharedMerging merging (shared_by k) cells
    → (c : CellKey) → IsCell g.dim c → has_cell g c ≡ true
    → corrected_total k g merging now cells c ≡ next_sum g merging now (k.depth - c.level) c

-- the totals alone are the sums where only the merging cells that are not shared stand in place of their leaves
abbrev pub TotalsBegin : Type 0
TotalsBegin = (depth : ℕ) (g : Spacetree) (marks : CellKey → Mark)
    (merging shared : CellKey → Bool) (trees : ℕ) (owned : ℕ → CellKey → Bool)
    (now : CellKey → ℤ)
    → depth ≤ 12 → IsGrid depth g → TellsMerges g marks merging
    → AreTreesOver g trees owned shared
    → (levels : ℕ) (c : CellKey) → IsCell g.dim c → has_cell g c ≡ true
    → total_sum g merging shared trees owned now levels c
    ≡ next_sum g (alone merging shared) now levels c

-- a refined cell whose children are all leaves
pub record HasLeavesAlone (g : Spacetree) (c : CellKey) : Type 0 where
  pub refined : is_refined g c ≡ true
  pub plain : (k : List ℕ) → IsDigits g.dim k → is_refined g (child_of c k) ≡ false

-- a test of such cells
abbrev pub TellsLowest : Spacetree → (CellKey → Bool) → Type 0
TellsLowest g test = (c : CellKey) → test c ≡ true → HasLeavesAlone g c

-- merging cells are such cells, so none lies below another
abbrev pub MergingIsLowest : Type 0
MergingIsLowest = (g : Spacetree) (marks : CellKey → Mark) (merging : CellKey → Bool)
    → TellsMerges g marks merging → TellsLowest g merging

-- a test, and one cell more
abbrev pub with_one : (CellKey → Bool) → CellKey → CellKey → Bool
with_one test m c = test c || eq_by_cmp key_cmp c m

-- one merging cell more adds its correction to the sums of the cells strictly above it, and leaves all others as they are
abbrev pub CorrectionAdds : Type 0
CorrectionAdds = (depth : ℕ) (g : Spacetree) (done : CellKey → Bool) (m : CellKey)
    (now : CellKey → ℤ)
    → depth ≤ 12 → IsGrid depth g → TellsLowest g done → HasLeavesAlone g m → done m ≡ false
    → (c : CellKey) → IsCell g.dim c → c.level ≤ depth
    → next_sum g (with_one done m) now (depth - c.level) c
    ≡ next_sum g done now (depth - c.level) c
    +ℤ added_by depth g.dim (λ q. next_sum g done now (depth - q.level) q) c m
