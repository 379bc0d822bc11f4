-- Grids, stored vertices and ranges, on boxes.
use Rattle.std.specs.Prelude.{◌≡◌, ℕ, zero, suc, ◌+◌, ◌-◌, ◌*◌, ◌^◌, ◌≤◌, nat_lt, nat_le, Bool, true, not, ◌&&◌, ◌||◌, List, [], ◌∷◌}
use Rattle.stack_law.specs.Boxes.{Axis, Box, forward, first, second, third, size, coord}
use Rattle.stack_law.specs.Order.{merged, rank, extent, IsInDomain}
use Rattle.stack_law.specs.Around.{Touches}
use Rattle.stack_walks.specs.Corners.{Corner, all_corners, side_on}

-- a box that n splits made, with m splits left, is in the grid where each cell above it is refined
abbrev pub is_in_grid : (ℕ → Axis) → (ℕ → Bool) → (ℕ → Box → Bool) → ℕ → ℕ → Box → Bool
is_in_grid axis is_cell refined zero m b = true
is_in_grid axis is_cell refined (suc n) m b =
    is_in_grid axis is_cell refined n (suc m) (merged (axis (suc m)) b)
    && (not (is_cell (suc m)) || refined (suc m) (merged (axis (suc m)) b))

-- the cells of the grid whose refined cells are given
abbrev pub cells_of : (ℕ → Axis) → (ℕ → Bool) → ℕ → (ℕ → Box → Bool) → ℕ → Box → Bool
cells_of axis is_cell splits refined m b = is_in_grid axis is_cell refined (splits - m) m b

-- each cell of the vertex's level that touches it, inside the domain, is a cell of the grid
abbrev pub IsStored : (Axis → ℕ) → (Box → Bool) → Box → Type 0
IsStored bound cells v = (b : Box) → IsInDomain bound b → Touches v b → cells b ≡ true

-- position c of the vertex v is the cell whose corner c is v
abbrev pub position : Box → Corner → Box
position v c = record { x0 = v.x0 - size c.s0; x1 = v.x1 - size c.s1; x2 = v.x2 - size c.s2 }

-- on one axis: whether that position is in the domain
abbrev pub is_position : (Axis → ℕ) → Box → Corner → Axis → Bool
is_position bound v c i = nat_le (size (side_on i c)) (coord i v)
    && nat_lt (coord i v) (bound i + size (side_on i c))

-- the position is outside the domain, or a cell of the grid
abbrev pub is_cell_at : (Axis → ℕ) → (Box → Bool) → Box → Corner → Bool
is_cell_at bound cells v c = not
    (is_position bound v c first && (is_position bound v c second && is_position bound v c third))
    || cells (position v c)

-- whether all items pass a test
abbrev pub all_of : {V : Type 0} → (V → Bool) → List V → Bool
all_of f [] = true
all_of f (x ∷ xs) = f x && all_of f xs

-- the same as `IsStored`, as a test: all positions of the vertex are outside or cells of the grid
abbrev pub is_stored : (Axis → ℕ) → (Box → Bool) → Box → Bool
is_stored bound cells v = all_of (is_cell_at bound cells v) all_corners

-- a tree holds a cell where the cell's interval of positions along the forward curve and the tree's range, from `start` up to but not at
-- `stop`, have a position in common; an empty range holds nothing
abbrev pub meets_range : (ℕ → Axis) → ℕ → ℕ → ℕ → ℕ → Box → Bool
meets_range axis splits start stop m b = nat_lt start stop
    && (nat_lt (rank forward axis (splits - m) m b * 3 ^ m) stop
    && nat_lt start ((rank forward axis (splits - m) m b + 1) * 3 ^ m))

-- of two sets of cells: the cells of both
abbrev pub both_hold : (ℕ → Box → Bool) → (ℕ → Box → Bool) → ℕ → Box → Bool
both_hold f g m b = f m b && g m b

-- and the cells of one of them
abbrev pub one_holds : (ℕ → Box → Bool) → (ℕ → Box → Bool) → ℕ → Box → Bool
one_holds f g m b = f m b || g m b

-- each kept vertex has grid cells alone round it
abbrev pub KeptAreStored : (ℕ → Axis) → (ℕ → Bool) → ℕ → (ℕ → Box → Bool) → (ℕ → Box → Bool)
    → Type 0
KeptAreStored axis is_cell splits cells kept = (m : ℕ) (v : Box) → is_cell m ≡ true → m ≤ splits
    → kept m v ≡ true → IsStored (extent axis (splits - m) m) (cells m) v
