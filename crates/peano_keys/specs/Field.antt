-- Fields: maps from leaves to states; the value of any cell, and what a cell sees across its faces.
use Rattle.std.specs.Prelude.{ℕ, ℤ, pos, zero, suc, ◌-◌, Bool, true, false, List, [], ◌∷◌, Option, Some, None, unwrap_or, if◌then◌else◌}
use Rattle.std.specs.FinMap as map
use Rattle.peano_keys.specs.declared.dim.Dim.{Dim}
use Rattle.peano_keys.specs.declared.dim.Dim.TheVariants.{Two, Three}
use Rattle.peano_keys.specs.declared.cell.CellKey.{CellKey}
use Rattle.peano_keys.specs.declared.cell.Face.{Face}
use Rattle.peano_keys.specs.declared.state.State.{State}
use Rattle.peano_keys.specs.declared.state.State.TheVariants.{Single, Pair, Triple, Quadruple}
use Rattle.peano_keys.specs.declared.side.Side.{Side}
use Rattle.peano_keys.specs.declared.side.Side.TheVariants.{Edge, Same, Coarse}
use Rattle.peano_keys.specs.declared.side.Sides.{Sides}
use Rattle.peano_keys.specs.Cell.{parent_of, centre_child, neighbour_of, key_cmp}
use Rattle.peano_keys.specs.State.{value_at}
use Rattle.peano_keys.specs.Grid.{Spacetree, is_refined, has_cell}
use Rattle.peano_keys.specs.Sums.{cell_weight, leaf_sum, floor_of}

-- maps from cells to states
abbrev pub States : Type 0
States = map.FinMap key_cmp State

-- the state of a leaf, and a fixed one of a cell that the field does not have
abbrev pub state_at : States → CellKey → State
state_at f c = unwrap_or (map.get f c) (Single (pos 0))

-- the state of the centre leaf of a cell, sought as far as `levels` below
abbrev pub centre_state : ℕ → Spacetree → States → CellKey → State
centre_state zero t f c = state_at f c
centre_state (suc levels) t f c = if is_refined t c
    then centre_state levels t f (centre_child t.dim c) else state_at f c

-- a state with as many values as another, given by their numbers
abbrev pub state_like : State → (ℕ → ℤ) → State
state_like (Single a) m = Single (m 0)
state_like (Pair a b) m = Pair (m 0) (m 1)
state_like (Triple a b c) m = Triple (m 0) (m 1) (m 2)
state_like (Quadruple a b c d) m = Quadruple (m 0) (m 1) (m 2) (m 3)

-- a component of a field
abbrev pub component_of : States → ℕ → CellKey → ℤ
component_of f i c = value_at (state_at f c) i

-- the components of a refined cell under a depth: of each the sum over the leaves below, times weight, divided by the weight of the cell and rounded down
abbrev pub component_mean : ℕ → Spacetree → States → CellKey → ℕ → ℤ
component_mean depth t f c i =
    floor_of (leaf_sum t (component_of f i) (depth - c.level) c) (cell_weight depth t.dim c)

-- the value of a cell under a depth: the state of a leaf, and the means of a refined cell, which has as many values as its centre leaf
abbrev pub mean_under : ℕ → Spacetree → States → CellKey → State
mean_under depth t f c = if is_refined t c
    then state_like (centre_state (12 - c.level) t f c) (component_mean depth t f c)
    else state_at f c

-- the value of a cell: under each depth that its grid has it is the same
abbrev pub value_of : Spacetree → States → CellKey → State
value_of t f c = mean_under 12 t f c

-- the state of the nearest cell of the grid among a cell and its ancestors, sought as far as `levels` above
abbrev pub covering_state : ℕ → Spacetree → States → CellKey → State
covering_state zero t f c = state_at f c
covering_state (suc levels) t f c = if has_cell t c then state_at f c
    else covering_state levels t f (parent_of c)

-- what stands at a place across a face: nothing outside the domain, the value of a cell of the grid, else the state of the leaf that covers it
abbrev pub side_at : Spacetree → States → Option CellKey → Side
side_at t f None = Edge
side_at t f (Some n) = if has_cell t n then Same (value_of t f n)
    else Coarse (covering_state n.level t f n)

-- what a cell sees across a face
abbrev pub side_of : Spacetree → States → CellKey → Face → Side
side_of t f c face = side_at t f (neighbour_of c face)

-- the low or the high face on an axis
abbrev pub face_on : ℕ → Bool → Face
face_on i up = record { axis = i; high = up }

-- the side on axis 2, which a plane has none of
abbrev pub third_side : Dim → Spacetree → States → CellKey → Bool → Side
third_side Two t f c up = Edge
third_side Three t f c up = side_of t f c (face_on 2 up)

-- the low or the high sides of a cell, by axis
abbrev pub sides_on : Spacetree → States → CellKey → Bool → List Side
sides_on t f c up = side_of t f c (face_on 0 up) ∷ side_of t f c (face_on 1 up)
    ∷ third_side t.dim t f c up ∷ []

-- all sides of a cell
abbrev pub sides_of : Spacetree → States → CellKey → Sides
sides_of t f c = record { low = sides_on t f c false; high = sides_on t f c true }
