-- The leaves of a grid as a list.
use Rattle.std.specs.Prelude.{◌≡◌, ◌↔◌, true, Bool, List}
use Rattle.std.specs.FinSet as set
use Rattle.std.specs.List.{list_any}
use Rattle.std.specs.List.Sorted.{IsStrictlySortedBy}
use Rattle.std.specs.Ordering.{eq_by_cmp}
use Rattle.peano_keys.specs.declared.cell.CellKey.{CellKey}
use Rattle.peano_keys.specs.Cell.{IsCell, key_cmp}
use Rattle.peano_keys.specs.Grid.{Cells, Spacetree, has_cell}
use Rattle.solver_api.specs.Step.{IsLeafOf}

-- a cell of a grid: a cell of the domain that the grid has
pub record IsCellOf (t : Spacetree) (c : CellKey) : Type 0 where
  pub cell : IsCell t.dim c
  pub there : has_cell t c ≡ true

-- whether a cell is one of a list
abbrev pub is_among : List CellKey → CellKey → Bool
is_among cells c = list_any (eq_by_cmp key_cmp c) cells

-- the cells of a set, each once, in key order
pub record ListsCells (s : Cells) (cells : List CellKey) : Type 0 where
  pub members : (c : CellKey) → is_among cells c ≡ set.contains s c
  pub order : IsStrictlySortedBy key_cmp cells

-- the leaves of a grid, each once, in key order
pub record ListsLeaves (t : Spacetree) (cells : List CellKey) : Type 0 where
  pub members : (c : CellKey) → (is_among cells c ≡ true) ↔ IsLeafOf t c
  pub order : IsStrictlySortedBy key_cmp cells
