-- Checks that the checker computes: small trees, lane by lane, with counts and vertices known from outside.
use Rattle.std.specs.Prelude.{◌≡◌, ℕ, suc, ◌-◌, ◌==◌, ◌&&◌, Bool, true, if◌then◌else◌, List, [], ◌∷◌, length, flat_map, ◌+◌}
use Rattle.stack_law.specs.Boxes.{Axis, Side, Box, Direction, forward, backward}
use Rattle.stack_law.specs.Stack.{Step, Event, push, pop, on_lane, pushed, popped}
use Rattle.stack_law.specs.Visits.{enter, walls}
use Rattle.stack_law.specs.Order.{rank, extent}
use Rattle.stack_walks.specs.Passing.{BoxPassing}
use Rattle.stack_law.specs.Moments.{same_box}
use Rattle.stack_walks.specs.Streams.{taken_in, given_out}
use Rattle.stack_law.specs.Walk.{walk}
use Rattle.stack_walks.specs.Grids.{cells_of, is_stored, all_of}
use Rattle.stack_walks.specs.Instances.{lane_events}
use Rattle.stack_law.specs.Domain.{root, axis_in, cell_in}
use Rattle.stack_law.specs.LaneLaws.{events}

-- a box of the plane
abbrev pub at : ℕ → ℕ → Box
at x y = record { x0 = x; x1 = y; x2 = 0 }

-- the root alone is refined
abbrev pub root_refined : ℕ → ℕ → Box → Bool
root_refined top m b = m == top

-- in a tree of depth 2 in the plane: the root and its centre child are refined
abbrev pub centre_refined : ℕ → Box → Bool
centre_refined m b = if m == 4 then true else ((m == 2) && same_box b (at 1 1))

-- the vertices stored in a grid of the plane
abbrev pub stored_in_plane : ℕ → (ℕ → Box → Bool) → ℕ → Box → Bool
stored_in_plane splits refined m v = (v.x2 == 0)
    && is_stored (extent (axis_in 2) (splits - m) m)
    (cells_of (axis_in 2) (cell_in 2) splits refined m) v

-- and in space
abbrev pub stored_in_space : ℕ → (ℕ → Box → Bool) → ℕ → Box → Bool
stored_in_space splits refined m v = is_stored (extent (axis_in 3) (splits - m) m)
    (cells_of (axis_in 3) (cell_in 3) splits refined m) v

-- what the lanes get in the plane
abbrev pub plane_events : Direction → ℕ → (ℕ → Box → Bool) → List (Event BoxPassing)
plane_events dir splits refined = lane_events dir (axis_in 2) (cell_in 2) splits
    (cells_of (axis_in 2) (cell_in 2) splits refined) refined (stored_in_plane splits refined)

-- and in space
abbrev pub space_events : Direction → ℕ → (ℕ → Box → Bool) → List (Event BoxPassing)
space_events dir splits refined = lane_events dir (axis_in 3) (cell_in 3) splits
    (cells_of (axis_in 3) (cell_in 3) splits refined) refined (stored_in_space splits refined)

-- how many items are given
abbrev pub pushes : {A : Type 0} → List (Event A) → ℕ
pushes [] = 0
pushes (e ∷ es) = elim e.step [ push x ↦ suc (pushes es) | pop x ↦ pushes es ]

-- how many vertices go to the output
abbrev pub plane_outputs : Direction → ℕ → (ℕ → Box → Bool) → ℕ
plane_outputs dir splits refined = length
    (flat_map
    (given_out Box (λ m v. v) dir (axis_in 2) splits
    (cells_of (axis_in 2) (cell_in 2) splits refined) (stored_in_plane splits refined))
    (walk dir (axis_in 2) (cell_in 2)
    (cells_of (axis_in 2) (cell_in 2) splits refined) refined splits root walls))

-- and in space
abbrev pub space_outputs : Direction → ℕ → (ℕ → Box → Bool) → ℕ
space_outputs dir splits refined = length
    (flat_map
    (given_out Box (λ m v. v) dir (axis_in 3) splits
    (cells_of (axis_in 3) (cell_in 3) splits refined) (stored_in_space splits refined))
    (walk dir (axis_in 3) (cell_in 3)
    (cells_of (axis_in 3) (cell_in 3) splits refined) refined splits root walls))

-- on one lane: what each pop wants and what it finds on top, whatever it wants
abbrev pub found_on_top : {A : Type 0} → List A → List (Step A) → List (A × A)
found_on_top s [] = []
found_on_top s (push x ∷ es) = found_on_top (x ∷ s) es
found_on_top [] (pop x ∷ es) = found_on_top [] es
found_on_top (y ∷ s) (pop x ∷ es) = (x, y) ∷ found_on_top s es

-- the vertices that a cell finds
abbrev pub found_by : ℕ → Box → List (BoxPassing × BoxPassing) → List Box
found_by m b [] = []
found_by m b (p ∷ ps) = if (p.0.splits == m) && same_box p.0.cell b
    then p.1.vertex ∷ found_by m b ps else found_by m b ps

-- each cell of the first level gives its place in the order to its neighbours
abbrev pub place_of_cell : ℕ → Box → Axis → Side → List ℕ
place_of_cell m b i h = rank forward (axis_in 2) 2 0 b ∷ []

-- what happens on lane k
abbrev pub lane_of_places : ℕ → List (Step ℕ)
lane_of_places k = on_lane k (events ℕ place_of_cell forward (axis_in 2) (cell_in 2) 2 root walls)

-- The lanes of nine cells in the plane: the serpentine is 0 1 2 upwards, 3 4 5 downwards, 6 7 8 upwards.
abbrev pub NineCellsLaneByLane : Type 0
NineCellsLaneByLane =
    (lane_of_places 0 ≡ push 3 ∷ (push 4 ∷ (push 5 ∷ (pop 5 ∷ (pop 4 ∷ (pop 3 ∷ []))))))
    × (lane_of_places 1 ≡ push 0 ∷ (push 1 ∷ (push 2 ∷ (pop 2 ∷ (pop 1 ∷ (pop 0 ∷ []))))))
    × (lane_of_places 2 ≡ push 1 ∷ (pop 1 ∷ (push 3 ∷ (pop 3 ∷ (push 7 ∷ (pop 7 ∷ []))))))
    × (lane_of_places 3 ≡ push 0 ∷ (pop 0 ∷ (push 4 ∷ (pop 4 ∷ (push 6 ∷ (pop 6 ∷ []))))))

-- each of twenty-seven cells in space gives its place in the order to its neighbours
abbrev pub place_in_space : ℕ → Box → Axis → Side → List ℕ
place_in_space m b i h = rank forward (axis_in 3) 3 0 b ∷ []

-- what happens on lane k
abbrev pub lane_in_space : ℕ → List (Step ℕ)
lane_in_space k = on_lane k (events ℕ place_in_space forward (axis_in 3) (cell_in 3) 3 root walls)

-- What twenty-seven cells in space give on each of six lanes, and what they take.
abbrev pub TwentySevenCellsLaneByLane : Type 0
TwentySevenCellsLaneByLane =
    (pushed (lane_in_space 0) ≡ 9 ∷ 10 ∷ 11 ∷ 12 ∷ 13 ∷ 14 ∷ 15 ∷ 16 ∷ 17 ∷ [])
    × (popped (lane_in_space 0) ≡ 17 ∷ 16 ∷ 15 ∷ 14 ∷ 13 ∷ 12 ∷ 11 ∷ 10 ∷ 9 ∷ [])
    × (pushed (lane_in_space 1) ≡ 0 ∷ 1 ∷ 2 ∷ 3 ∷ 4 ∷ 5 ∷ 6 ∷ 7 ∷ 8 ∷ [])
    × (popped (lane_in_space 1) ≡ 8 ∷ 7 ∷ 6 ∷ 5 ∷ 4 ∷ 3 ∷ 2 ∷ 1 ∷ 0 ∷ [])
    × (pushed (lane_in_space 2) ≡ 3 ∷ 4 ∷ 5 ∷ 9 ∷ 10 ∷ 11 ∷ 21 ∷ 22 ∷ 23 ∷ [])
    × (popped (lane_in_space 2) ≡ 5 ∷ 4 ∷ 3 ∷ 11 ∷ 10 ∷ 9 ∷ 23 ∷ 22 ∷ 21 ∷ [])
    × (pushed (lane_in_space 3) ≡ 0 ∷ 1 ∷ 2 ∷ 12 ∷ 13 ∷ 14 ∷ 18 ∷ 19 ∷ 20 ∷ [])
    × (popped (lane_in_space 3) ≡ 2 ∷ 1 ∷ 0 ∷ 14 ∷ 13 ∷ 12 ∷ 20 ∷ 19 ∷ 18 ∷ [])
    × (pushed (lane_in_space 4) ≡ 1 ∷ 3 ∷ 7 ∷ 9 ∷ 13 ∷ 15 ∷ 19 ∷ 21 ∷ 25 ∷ [])
    × (popped (lane_in_space 4) ≡ 1 ∷ 3 ∷ 7 ∷ 9 ∷ 13 ∷ 15 ∷ 19 ∷ 21 ∷ 25 ∷ [])
    × (pushed (lane_in_space 5) ≡ 0 ∷ 4 ∷ 6 ∷ 10 ∷ 12 ∷ 16 ∷ 18 ∷ 22 ∷ 24 ∷ [])
    × (popped (lane_in_space 5) ≡ 0 ∷ 4 ∷ 6 ∷ 10 ∷ 12 ∷ 16 ∷ 18 ∷ 22 ∷ 24 ∷ [])

-- in a tree of depth 2 in the plane each cell gives its place in the order of its level, and the cells of the first level are told by 100 more
abbrev pub place_of_level : ℕ → Box → Axis → Side → List ℕ
place_of_level m b i h =
    (if m == 2 then 100 + rank forward (axis_in 2) 2 2 b else rank forward (axis_in 2) 4 0 b)
    ∷ []

-- what happens on lane k
abbrev pub lane_of_two_levels : ℕ → List (Step ℕ)
lane_of_two_levels k =
    on_lane k (events ℕ place_of_level forward (axis_in 2) (cell_in 2) 4 root walls)

-- a lane on which each pop finds on top what it wants, and how often
abbrev pub IsServed : List (Step ℕ) → ℕ → Type 0
IsServed steps n = (length (found_on_top [] steps) ≡ n)
    × (all_of (λ (p : ℕ × ℕ). p.0 == p.1) (found_on_top [] steps) ≡ true)

-- Eighty-one cells below nine: on each lane 36 items pass between the small cells and 3 between the large ones.
abbrev pub TwoLevelsLaneByLane : Type 0
TwoLevelsLaneByLane = IsServed (lane_of_two_levels 0) 39 × IsServed (lane_of_two_levels 1) 39
    × IsServed (lane_of_two_levels 2) 39 × IsServed (lane_of_two_levels 3) 39

-- The counts of three grids: nine cells in the plane, the same with the centre refined, twenty-seven cells in space.
abbrev pub CountsOfSmallGrids : Type 0
CountsOfSmallGrids =
    (pushes (plane_events forward 2 (root_refined 2)) ≡ 20)
    × (plane_outputs forward 2 (root_refined 2) ≡ 20)
    × (pushes (plane_events forward 4 centre_refined) ≡ 32)
    × (plane_outputs forward 4 centre_refined ≡ 24)
    × (pushes (plane_events backward 4 centre_refined) ≡ 32)
    × (pushes (space_events forward 3 (root_refined 3)) ≡ 152)
    × (space_outputs forward 3 (root_refined 3) ≡ 72)

-- what a cell of the grid with a refined centre finds on a lane
abbrev pub centre_finds : ℕ → Box → ℕ → List Box
centre_finds m b k =
    found_by m b (found_on_top [] (on_lane k (plane_events forward 4 centre_refined)))

-- With the centre refined, the centre cell of the first level finds three of its four vertices on top of the lanes, by falling number, and
-- the fourth, of whose cells it is the first, in the input.
abbrev pub CentreFindsItsVertices : Type 0
CentreFindsItsVertices = (centre_finds 2 (at 1 1) 0 ≡ [])
    × (centre_finds 2 (at 1 1) 1 ≡ at 1 1 ∷ [])
    × (centre_finds 2 (at 1 1) 2 ≡ at 2 2 ∷ (at 1 2 ∷ [])) × (centre_finds 2 (at 1 1) 3 ≡ [])
    × (taken_in Box (λ m v. v) forward (axis_in 2) 4
    (cells_of (axis_in 2) (cell_in 2) 4 centre_refined) (stored_in_plane 4 centre_refined)
    (enter 2 (at 1 1) walls)
    ≡ at 2 1 ∷ [])
