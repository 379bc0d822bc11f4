-- Bounds on partial sums, on totals and on corrections.
use Rattle.std.specs.Prelude.{◌≡◌, ℕ, suc, ◌<◌, ◌≤◌, ℤ, pos, ◌≤ℤ◌, Bool, true, ◌&&◌, unsigned_abs, List}
use Rattle.peano_keys.specs.declared.dim.Dim.{Dim}
use Rattle.peano_keys.specs.declared.cell.CellKey.{CellKey}
use Rattle.peano_keys.specs.declared.side.Mark.{Mark}
use Rattle.peano_keys.specs.Dim.{children}
use Rattle.peano_keys.specs.Cell.{IsCell}
use Rattle.peano_keys.specs.Grid.{Spacetree, has_cell}
use Rattle.spacetree.specs.Counts.{EachOnce}
use Rattle.spacetree.specs.Leaves.{is_among}
use Rattle.curve_cuts.specs.Cuts.{Cuts, IsCutGrid}
use Rattle.peano_keys.specs.Sums.{over_first, weight, cell_weight}
use Rattle.mean_values.specs.NextSums.{TellsMerges}
use Rattle.cell_sums.specs.Bounds.{WeighsBetween, AllBetween}
use Rattle.tree_sums.specs.Trees.{shared_by}
use Rattle.tree_sums.specs.Partials.{partial_sum, correction, tree_partial}
use Rattle.tree_sums.specs.Totals.{corrected_total}

-- numbers of cells lie between two bounds, and 0 does too
pub record AreBounds (lo hi : ℤ) (now : CellKey → ℤ) : Type 0 where
  pub low : lo ≤ℤ pos 0
  pub high : pos 0 ≤ℤ hi
  pub each : AllBetween lo hi now

-- then a partial sum lies between the bounds times the weight of the cell, whatever a tree owns
abbrev pub PartialsAreBetween : Type 0
PartialsAreBetween = (g : Spacetree) (merging shared owned : CellKey → Bool)
    (now : CellKey → ℤ) (lo hi : ℤ) → AreBounds lo hi now → (levels : ℕ) (c : CellKey)
    → WeighsBetween lo hi (weight g.dim levels)
    (partial_sum g merging shared owned now levels c)

-- so do the partial sums of the first trees together
abbrev pub FirstPartialsAreBetween : Type 0
FirstPartialsAreBetween = (k : Cuts) (g : Spacetree) (merging : CellKey → Bool)
    (now : CellKey → ℤ) (lo hi : ℤ)
    → IsCutGrid k g → AreBounds lo hi now → (some : ℕ) (c : CellKey)
    → WeighsBetween lo hi (cell_weight k.depth g.dim c)
    (over_first some (λ t. tree_partial k g merging now t c))

-- and the total of a cell with the corrections of some of the shared merging cells
abbrev pub CorrectedAreBetween : Type 0
CorrectedAreBetween = (k : Cuts) (g : Spacetree) (marks : CellKey → Mark)
    (merging : CellKey → Bool) (now : CellKey → ℤ) (some : List CellKey) (lo hi : ℤ)
    → IsCutGrid k g → TellsMerges g marks merging → EachOnce some
    → ((m : CellKey) → is_among some m ≡ true → (merging m && shared_by k m) ≡ true)
    → AllBetween lo hi now → (c : CellKey) → IsCell g.dim c → has_cell g c ≡ true
    → WeighsBetween lo hi (cell_weight k.depth g.dim c) (corrected_total k g merging now some c)

-- a correction takes away less than the weight
abbrev pub CorrectionIsSmall : Type 0
CorrectionIsSmall = (total : ℤ) (w : ℕ) → 0 < w
    → (correction total w ≤ℤ pos 0) × (unsigned_abs (correction total w) < w)

-- sums of some of the children of a cell lie between the bounds times the weight of the cell
abbrev pub SomeChildrenAreBetween : Type 0
SomeChildrenAreBetween = (dim : Dim) (lo hi : ℤ) (levels some : ℕ) (f : ℕ → ℤ)
    → lo ≤ℤ pos 0 → pos 0 ≤ℤ hi → some ≤ children dim
    → ((i : ℕ) → WeighsBetween lo hi (weight dim levels) (f i))
    → WeighsBetween lo hi (weight dim (suc levels)) (over_first some f)
