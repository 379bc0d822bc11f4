-- How many cells split and merge in a step, and how many the next grid has.
use Rattle.std.specs.Prelude.{◌≡◌, ℕ, ◌+◌, ◌*◌, ◌^◌}
use Rattle.peano_keys.specs.declared.dim.Dim.{Dim}
use Rattle.peano_keys.specs.declared.cell.CellKey.{CellKey}
use Rattle.peano_keys.specs.declared.side.Mark.{Mark}
use Rattle.peano_keys.specs.Dim.{axes}
use Rattle.peano_keys.specs.Grid.{Spacetree, IsGrid}
use Rattle.peano_keys.specs.Next.{Splits, Merges}
use Rattle.spacetree.specs.Counts.{CountsCells, cells_of}
use Rattle.step_driver.specs.declared.finishing.Turnover.{Turnover}

-- of a grid with so many cells, so many split by some marks and so many merge
pub record IsTurnover (dim : Dim) (cells : ℕ) (g : Spacetree) (marks : CellKey → Mark)
    (turnover : Turnover) : Type 0 where
  pub grid : IsGrid 12 g
  pub dims : g.dim ≡ dim
  pub size : cells_of g ≡ cells
  pub splits : CountsCells (Splits g marks) turnover.splits
  pub merges : CountsCells (Merges g marks) turnover.merges

-- so it is for some grid and marks
abbrev pub HasTurnover : Dim → ℕ → Turnover → Type 0
HasTurnover dim cells turnover = (g : Spacetree) × (marks : CellKey → Mark)
    × IsTurnover dim cells g marks turnover

-- a size after another one: each cell that splits brings its children, and each that merges takes its own away
abbrev pub IsSizeAfter : Dim → ℕ → Turnover → ℕ → Type 0
IsSizeAfter dim cells turnover size = size + 3 ^ axes dim * turnover.merges
    ≡ cells + 3 ^ axes dim * turnover.splits
