-- What a sweep of a tree goes over: which cells it visits and which vertices it keeps.
use Rattle.std.specs.Prelude.{◌≡◌, ℕ, ◌≤◌, nat_lt, min, max, Bool, true, false, ◌&&◌, ◌||◌, List, [], ◌∷◌, Option, Some, None}
use Rattle.peano_keys.specs.declared.cell.CellKey.{CellKey}
use Rattle.peano_keys.specs.declared.vertex.VertexKey.{VertexKey}
use Rattle.peano_keys.specs.declared.dim.Dim.{Dim}
use Rattle.peano_keys.specs.declared.dim.Dim.TheVariants.{Two, Three}
use Rattle.peano_keys.specs.Vertex.{adjacent_of}
use Rattle.peano_keys.specs.Grid.{Spacetree, has_cell, is_refined, IsGrid}
use Rattle.peano_curve.specs.declared.order.Direction.{Direction}
use Rattle.peano_curve.specs.declared.range.Range.{Range}
use Rattle.peano_curve.specs.Order.{interval_of}
use Rattle.stack_walks.specs.Grids.{all_of}

-- a sweep of a tree: the old grid is none where the sweep raises a grid, and the new one where it changes nothing
pub record SweepPlan : Type 0 where
  pub depth : ℕ
  pub range : Range
  pub dir : Direction
  pub old : Option Spacetree
  pub new : Spacetree

-- the dimension
abbrev pub dim_of : SweepPlan → Dim
dim_of p = p.new.dim

-- the old grid, where there is one, is a grid of that depth and dimension
abbrev pub IsOldGrid : ℕ → Dim → Option Spacetree → Type 0
IsOldGrid depth dim None = Unit {0}
IsOldGrid depth dim (Some t) = IsGrid depth t × (t.dim ≡ dim)

-- both grids are of the depth
pub record IsSweepPlan (p : SweepPlan) : Type 0 where
  pub depth : p.depth ≤ 12
  pub old : IsOldGrid p.depth (dim_of p) p.old
  pub new : IsGrid p.depth p.new

-- whether two ranges share a position
abbrev pub ranges_meet : Range → Range → Bool
ranges_meet r s = nat_lt (max r.lo s.lo) (min r.hi s.hi)

-- whether the tree's range holds a cell
abbrev pub is_held : SweepPlan → CellKey → Bool
is_held p c = ranges_meet (interval_of (dim_of p) c p.depth) p.range

-- whether a cell is one of a grid that may not be there
abbrev pub is_cell_in : Option Spacetree → CellKey → Bool
is_cell_in None c = false
is_cell_in (Some t) c = has_cell t c

-- whether it is refined there
abbrev pub is_refined_in : Option Spacetree → CellKey → Bool
is_refined_in None c = false
is_refined_in (Some t) c = is_refined t c

-- a sweep visits the held cells of the old or the new grid
abbrev pub is_visited : SweepPlan → CellKey → Bool
is_visited p c = is_held p c && (is_cell_in p.old c || has_cell p.new c)

-- and goes below those that are refined in one of them
abbrev pub is_opened : SweepPlan → CellKey → Bool
is_opened p c = is_refined_in p.old c || is_refined p.new c

-- the numbers of the corners of a cell, which are those of the positions round a vertex
abbrev pub corner_numbers : Dim → List ℕ
corner_numbers Two = 0 ∷ 1 ∷ 2 ∷ 3 ∷ []
corner_numbers Three = 0 ∷ 1 ∷ 2 ∷ 3 ∷ 4 ∷ 5 ∷ 6 ∷ 7 ∷ []

-- a position is outside the domain, or has a cell of the grid
abbrev pub is_settled : Spacetree → Option CellKey → Bool
is_settled t None = true
is_settled t (Some c) = has_cell t c

-- whether a vertex is stored in a grid: all positions round it are outside or have a cell of the grid
abbrev pub is_stored : Spacetree → VertexKey → Bool
is_stored t v = all_of (λ n. is_settled t (adjacent_of t.dim v n)) (corner_numbers t.dim)

-- whether it is stored in a grid that may not be there
abbrev pub is_stored_in : Option Spacetree → VertexKey → Bool
is_stored_in None v = false
is_stored_in (Some t) v = is_stored t v

-- a sweep keeps the vertices that are stored in the old or the new grid
abbrev pub is_kept : SweepPlan → VertexKey → Bool
is_kept p v = is_stored_in p.old v || is_stored p.new v
