-- How many cells and leaves a grid has, by formula, and what counting is.
use Rattle.std.specs.Prelude.{◌≡◌, ◌↔◌, ℕ, ◌+◌, ◌-◌, ◌*◌, ◌^◌, ◌≤◌, true, false, List, [], ◌∷◌, length}
use Rattle.std.specs.FinSet as set
use Rattle.peano_keys.specs.declared.dim.Dim.{Dim}
use Rattle.peano_keys.specs.declared.cell.CellKey.{CellKey}
use Rattle.peano_keys.specs.Dim.{axes}
use Rattle.peano_keys.specs.Grid.{Spacetree, IsGrid}
use Rattle.spacetree.specs.declared.limits.TheConstants.{MOST_CELLS}
use Rattle.spacetree.specs.Leaves.{is_among}

-- the root, and the children of each of so many refined cells
abbrev pub cells_for : Dim → ℕ → ℕ
cells_for dim refined = 1 + 3 ^ axes dim * refined

-- the number of cells of a grid
abbrev pub cells_of : Spacetree → ℕ
cells_of t = cells_for t.dim (set.len t.refined)

-- what a grid of the engine is: a grid of depth at most 12, with at most 200,000 cells
pub record IsServedGrid (t : Spacetree) : Type 0 where
  pub grid : IsGrid 12 t
  pub room : cells_of t ≤ MOST_CELLS

-- the number of leaves of a grid: of its cells, those that are not refined
abbrev pub leaves_of : Spacetree → ℕ
leaves_of t = cells_of t - set.len t.refined

-- no cell stands twice
abbrev pub EachOnce : List CellKey → Type 0
EachOnce [] = Unit {0}
EachOnce (c ∷ cs) = (is_among cs c ≡ false) × EachOnce cs

-- of so many cells something is true
pub record CountsCells (P : CellKey → Type 0) (n : ℕ) : Type 0 where
  pub cells : List CellKey
  pub members : (c : CellKey) → (is_among cells c ≡ true) ↔ P c
  pub once : EachOnce cells
  pub count : length cells ≡ n
