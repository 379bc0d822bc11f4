-- How many vertices a walk gives along its lanes and to its output.
use Rattle.std.specs.Prelude.{◌≡◌, ℕ, ◌+◌, ◌-◌, ◌≤◌, ◌==◌, ◌&&◌, nat_le, length, Bool, true, if◌then◌else◌, List, [], ◌∷◌, flat_map}
use Rattle.std.specs.List.{count_by, sum_by}
use Rattle.stack_law.specs.Boxes.{Axis, Box, Direction}
use Rattle.stack_law.specs.Domain.{root}
use Rattle.stack_law.specs.Visits.{Visit, enter, leave, visits, walls}
use Rattle.stack_law.specs.Order.{IsInDomain, extent}
use Rattle.stack_law.specs.Stack.{Step, Event, push, pop, AreDistinct}
use Rattle.stack_law.specs.Once.{IsIn, left_at}
use Rattle.stack_walks.specs.Corners.{Corner, all_corners, vertex, by_corners}
use Rattle.stack_walks.specs.Passing.{BoxPassing, box_passing}
use Rattle.stack_law.specs.Moments.{same_box}
use Rattle.stack_walks.specs.Handing.{has_kept_corner, goes_on, came_from, KeptUnbroken}
use Rattle.stack_walks.specs.Streams.{given_out}
use Rattle.stack_law.specs.Walk.{walk, ClosedAreEmpty}
use Rattle.stack_walks.specs.Instances.{lane_events}

-- a vertex of the level that has `splits` splits left
pub record Kept : Type 0 where
  pub splits : ℕ
  pub vertex : Box

-- such a vertex by its parts
abbrev pub kept_vertex : ℕ → Box → Kept
kept_vertex m v = record { splits = m; vertex = v }

-- what a step gives
abbrev pub given_by : {A : Type 0} → Step A → List A
given_by (push x) = x ∷ []
given_by (pop x) = []

-- all that events give, on whatever lane
abbrev pub all_given : {A : Type 0} → List (Event A) → List A
all_given es = flat_map (λ e. given_by e.step) es

module _ (dir : Direction) (axis : ℕ → Axis) (splits : ℕ) (visited kept : ℕ → Box → Bool) where
  -- the kept vertices of a visited cell, when it is left
  abbrev pub kept_corners : Visit → List Kept
  kept_corners (enter m b io) = []
  kept_corners (leave m b io) = flat_map
      (λ c. if has_kept_corner dir axis splits visited kept m b c
      then kept_vertex m (vertex b c) ∷ [] else []) all_corners

  -- what a visit does on the lanes
  abbrev pub lane_passings : Visit → List (Event BoxPassing)
  lane_passings v = by_corners BoxPassing box_passing (goes_on dir axis splits visited kept)
      (came_from dir axis splits visited kept) v

-- Each kept corner of a visited cell is given along a lane or to the output, for any choice of vertices that are counted. So the vertices given
-- along lanes are, for each vertex, as many as the visited cells round it, less those at which it ends.
abbrev pub EachKeptCornerIsGiven : Type 0
EachKeptCornerIsGiven = (counted : ℕ → Box → Bool) (dir : Direction) (axis : ℕ → Axis)
    (is_cell : ℕ → Bool) (splits : ℕ) (visited kept : ℕ → Box → Bool)
    → KeptUnbroken dir axis splits visited kept is_cell
    → count_by (λ (p : BoxPassing). counted p.splits p.vertex)
    (all_given
    (flat_map (lane_passings dir axis splits visited kept)
    (visits dir axis is_cell splits root walls)))
    + count_by (λ (k : Kept). counted k.splits k.vertex)
    (flat_map (given_out Kept kept_vertex dir axis splits visited kept)
    (visits dir axis is_cell splits root walls))
    ≡ count_by (λ (k : Kept). counted k.splits k.vertex)
    (flat_map (kept_corners dir axis splits visited kept)
    (visits dir axis is_cell splits root walls))

-- whether two such vertices are the same
abbrev pub same_kept : Kept → Kept → Bool
same_kept k l = (k.splits == l.splits) && same_box k.vertex l.vertex

-- on one axis: whether a plane bounds a box
abbrev pub is_end : ℕ → ℕ → Bool
is_end x v = nat_le x v && nat_le v (x + 1)

-- whether a vertex is a corner of a box, as a test
abbrev pub is_corner_of : Box → Box → Bool
is_corner_of v b = is_end b.x0 v.x0 && (is_end b.x1 v.x1 && is_end b.x2 v.x2)

-- the run of a vertex: the visited cells that touch it, in the order in which the walk leaves them
abbrev pub run_of : Direction → (ℕ → Axis) → (ℕ → Bool) → ℕ → (ℕ → Box → Bool) → ℕ → Box → List Box
run_of dir axis is_cell splits visited m v = flat_map
    (λ b. if visited m b && is_corner_of v b then b ∷ [] else [])
    (flat_map (left_at m) (visits dir axis is_cell splits root walls))

-- Each kept vertex that a visited cell touches goes to the output once.
abbrev pub EachVertexEndsOnce : Type 0
EachVertexEndsOnce = (dir : Direction) (axis : ℕ → Axis) (is_cell : ℕ → Bool) (splits : ℕ)
    (visited kept : ℕ → Box → Bool)
    → KeptUnbroken dir axis splits visited kept is_cell
    → AreDistinct same_kept
    (flat_map (given_out Kept kept_vertex dir axis splits visited kept)
    (visits dir axis is_cell splits root walls))
    × ((m : ℕ) (b : Box) (c : Corner) → is_cell m ≡ true → m ≤ splits
    → IsInDomain (extent axis (splits - m) m) b
    → has_kept_corner dir axis splits visited kept m b c ≡ true
    → IsIn (kept_vertex m (vertex b c))
    (flat_map (given_out Kept kept_vertex dir axis splits visited kept)
    (visits dir axis is_cell splits root walls)))

-- Each kept vertex is given along the lanes once less than its run is long. So all that is given is the sum over the vertices of run length less one.
abbrev pub GivenOnceLessThanTheRun : Type 0
GivenOnceLessThanTheRun = (dir : Direction) (axis : ℕ → Axis) (is_cell : ℕ → Bool) (splits : ℕ)
    (visited kept : ℕ → Box → Bool)
    → KeptUnbroken dir axis splits visited kept is_cell → (m : ℕ) (v : Box) → is_cell m ≡ true
    → m ≤ splits → kept m v ≡ true
    → count_by (λ (p : BoxPassing). (p.splits == m) && same_box p.vertex v)
    (all_given
    (flat_map (lane_passings dir axis splits visited kept)
    (visits dir axis is_cell splits root walls)))
    ≡ length (run_of dir axis is_cell splits visited m v) - 1

-- All that is given along the lanes is as much as the sum, over the vertices that go to the output, of run length less one.
abbrev pub PushesAreRunsLessOne : Type 0
PushesAreRunsLessOne = (dir : Direction) (axis : ℕ → Axis) (is_cell : ℕ → Bool) (splits : ℕ)
    (visited kept : ℕ → Box → Bool)
    → KeptUnbroken dir axis splits visited kept is_cell → (is_open : ℕ → Box → Bool)
    → ClosedAreEmpty axis is_cell splits visited is_open
    → length (all_given (lane_events dir axis is_cell splits visited is_open kept))
    ≡ sum_by
    (λ (k : Kept). length (run_of dir axis is_cell splits visited k.splits k.vertex) - 1)
    (flat_map (given_out Kept kept_vertex dir axis splits visited kept)
    (walk dir axis is_cell visited is_open splits root walls))
