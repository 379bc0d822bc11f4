-- Grids: the dimension and the set of refined cells; which cells, leaves and stored vertices a grid has.
use Rattle.std.specs.Prelude.{◌≡◌, ℕ, ◌<◌, ◌==◌, ◌&&◌, ◌||◌, not, true, Bool, refl}
use Rattle.std.specs.FinSet as set
use Rattle.std.specs.Coded.{Coded, code_by, coded×}
use Rattle.peano_keys.specs.declared.dim.Dim.{Dim}
use Rattle.peano_keys.specs.declared.cell.CellKey.{CellKey}
use Rattle.peano_keys.specs.declared.vertex.VertexKey.{VertexKey}
use Rattle.peano_keys.specs.Dim.{coded_dim}
use Rattle.peano_keys.specs.Cell.{IsCell, parent_of, key_cmp, coded_cell}
use Rattle.peano_keys.specs.Vertex.{Touches}

-- sets of cells
abbrev pub Cells : Type 0
Cells = set.FinSet key_cmp

-- a spacetree: the dimension and the set of refined cells
pub record Spacetree : Type 0 where
  pub dim : Dim
  pub refined : Cells

-- a spacetree as a pair
abbrev pub coded_spacetree : Coded Spacetree
coded_spacetree = code_by (Dim × set.FinSet key_cmp) (coded× coded_dim (set.code coded_cell))
    (λ t. (t.dim, t.refined)) (λ p. record { dim = p.0; refined = p.1 }) (λ _. refl)

-- whether a cell is refined
abbrev pub is_refined : Spacetree → CellKey → Bool
is_refined t c = set.contains t.refined c

-- whether a cell is one of the grid: the root, or a child of a refined cell
abbrev pub has_cell : Spacetree → CellKey → Bool
has_cell t c = (c.level == 0) || is_refined t (parent_of c)

-- whether a cell is a leaf: a cell of the grid that is not refined
abbrev pub is_leaf : Spacetree → CellKey → Bool
is_leaf t c = has_cell t c && not (is_refined t c)

-- a grid of a depth: each refined cell is a cell of the domain of a level below the depth, and its parent is refined too
pub record IsGrid (depth : ℕ) (t : Spacetree) : Type 0 where
  pub cells : (c : CellKey) → is_refined t c ≡ true → IsCell t.dim c
  pub levels : (c : CellKey) → is_refined t c ≡ true → c.level < depth
  pub parents : (c : CellKey) → is_refined t c ≡ true → 0 < c.level
      → is_refined t (parent_of c) ≡ true

-- a vertex is stored where each cell of the domain round it is a cell of the grid
abbrev pub IsStored : Spacetree → VertexKey → Type 0
IsStored t v = (q : CellKey) → IsCell t.dim q → Touches q v → has_cell t q ≡ true

-- a vertex is a corner of some cell of the grid
abbrev pub IsGridCorner : Spacetree → VertexKey → Type 0
IsGridCorner t v = (q : CellKey) × IsCell t.dim q × Touches q v × (has_cell t q ≡ true)

-- every other corner of a cell of the grid is hanging
abbrev pub IsHanging : Spacetree → VertexKey → Type 0
IsHanging t v = IsGridCorner t v × ¬ IsStored t v
