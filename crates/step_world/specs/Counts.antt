-- How many leaves there are and how many cells split and merge, tree by tree and together, and the size of the next grid.
use Rattle.std.specs.Prelude.{◌≡◌, ℕ, zero, suc, ◌+◌, ◌*◌, ◌^◌, ◌<◌, ◌≤◌, true, List, length, IsSome}
use Rattle.peano_keys.specs.declared.cell.CellKey.{CellKey}
use Rattle.peano_keys.specs.declared.side.Mark.{Mark}
use Rattle.peano_keys.specs.Dim.{axes}
use Rattle.peano_keys.specs.Grid.{Spacetree, IsGrid}
use Rattle.peano_keys.specs.Next.{Splits, Merges, IsNextGrid}
use Rattle.spacetree.specs.declared.limits.TheConstants.{MOST_CELLS}
use Rattle.spacetree.specs.Counts.{CountsCells, EachOnce, cells_of}
use Rattle.spacetree.specs.Leaves.{is_among, IsCellOf}
use Rattle.peano_keys.specs.Field.{States}
use Rattle.solver_api.specs.Step.{UpdateRule, MarkRule, IsLeafOf, marks_of, new_state}
use Rattle.spacetree.specs.Evaluation.{Crowds}
use Rattle.curve_cuts.specs.Cuts.{Cuts, Owns, IsCutGrid}

-- the sum of the first numbers
abbrev pub total : ℕ → (ℕ → ℕ) → ℕ
total zero n = 0
total (suc t) n = n t + total t n

-- the leaves of a grid are those of the trees together
abbrev pub LeavesAddUp : Type 0
LeavesAddUp = (k : Cuts) (g : Spacetree) (n : ℕ → ℕ) → IsCutGrid k g
    → ((t : ℕ) → t < k.trees → CountsCells (λ c. Owns k t c × IsLeafOf g c) (n t))
    → CountsCells (IsLeafOf g) (total k.trees n)

-- and so are the cells that split
abbrev pub SplitsAddUp : Type 0
SplitsAddUp = (k : Cuts) (g : Spacetree) (marks : CellKey → Mark) (n : ℕ → ℕ) → IsCutGrid k g
    → ((t : ℕ) → t < k.trees → CountsCells (λ c. Owns k t c × Splits g marks c) (n t))
    → CountsCells (Splits g marks) (total k.trees n)

-- and those that merge
abbrev pub MergesAddUp : Type 0
MergesAddUp = (k : Cuts) (g : Spacetree) (marks : CellKey → Mark) (n : ℕ → ℕ) → IsCutGrid k g
    → ((t : ℕ) → t < k.trees → CountsCells (λ c. Owns k t c × Merges g marks c) (n t))
    → CountsCells (Merges g marks) (total k.trees n)

-- cells of a grid, none of them twice, are no more than the grid has
abbrev pub CountsAtMost : Type 0
CountsAtMost = (g : Spacetree) (cells : List CellKey) → EachOnce cells
    → ((c : CellKey) → is_among cells c ≡ true → IsCellOf g c) → length cells ≤ cells_of g

-- the size of the next grid: that of the old one, with the children of each cell that splits and without those of each that merges
abbrev pub NextSize : Type 0
NextSize = (g new : Spacetree) (marks : CellKey → Mark) (splits merges : ℕ) → IsGrid 12 g
    → IsNextGrid g marks new → CountsCells (Splits g marks) splits
    → CountsCells (Merges g marks) merges
    → cells_of new + 3 ^ axes g.dim * merges ≡ cells_of g + 3 ^ axes g.dim * splits

-- a step is crowded where no leaf fails and this size is above the limit
abbrev pub SizeDecides : Type 0
SizeDecides = (updated : UpdateRule) (marked : MarkRule) (g : Spacetree) (f : States)
    (splits merges cells : ℕ)
    → IsGrid 12 g → ((c : CellKey) → IsLeafOf g c → IsSome (new_state updated g f c))
    → CountsCells (Splits g (marks_of marked g f)) splits
    → CountsCells (Merges g (marks_of marked g f)) merges
    → cells + 3 ^ axes g.dim * merges ≡ cells_of g + 3 ^ axes g.dim * splits → MOST_CELLS < cells
    → Crowds updated marked g f cells
