-- Laws: each kept corner of a visited cell goes to one place and came from one place.
use Rattle.std.specs.Prelude.{◌≡◌, ◌⊎◌, ℕ, ◌-◌, ◌≤◌, Bool, true, false}
use Rattle.stack_law.specs.Boxes.{Axis, Side, Box, Direction}
use Rattle.stack_law.specs.Order.{rank, extent, IsInDomain}
use Rattle.stack_law.specs.Around.{IsLastVisited, IsFirstVisited}
use Rattle.stack_walks.specs.Corners.{Corner, vertex, AllPassToNext}
use Rattle.stack_walks.specs.Handing.{goes_on, came_from, ends_at, begins_at, has_kept_corner, KeptUnbroken}

-- What a cell finds among its neighbours is what the run of the vertex says, in both directions.
abbrev pub NeighboursTellTheRun : Type 0
NeighboursTellTheRun = (dir : Direction) (axis : ℕ → Axis) (is_cell : ℕ → Bool) (splits : ℕ)
    (visited kept : ℕ → Box → Bool)
    → KeptUnbroken dir axis splits visited kept is_cell
    → AllPassToNext dir axis is_cell splits visited kept (goes_on dir axis splits visited kept)
    (came_from dir axis splits visited kept)

-- one face of a corner
pub record IsOnlyFace (f : Axis → Side → Bool) (i : Axis) (h : Side) : Type 0 where
  pub holds : f i h ≡ true
  pub only : (j : Axis) (g : Side) → f j g ≡ true → (j ≡ i) × (g ≡ h)

-- the corner goes to the output or across one face
abbrev pub HasOneWay : Bool → (Axis → Side → Bool) → Type 0
HasOneWay ends f = (ends ≡ true × ((i : Axis) (h : Side) → f i h ≡ false))
    ⊎ (ends ≡ false × ((i : Axis) × (h : Side) × IsOnlyFace f i h))

-- Each kept corner of a visited cell ends there or goes on across exactly one face; it begins there or has come across exactly one face.
-- It ends at the last visited cell round the vertex and begins at the first.
abbrev pub EachCornerHasOneWay : Type 0
EachCornerHasOneWay = (dir : Direction) (axis : ℕ → Axis) (is_cell : ℕ → Bool) (splits : ℕ)
    (visited kept : ℕ → Box → Bool)
    → KeptUnbroken dir axis splits visited kept is_cell → (m : ℕ) (b : Box) (c : Corner)
    → is_cell m ≡ true → m ≤ splits → IsInDomain (extent axis (splits - m) m) b
    → has_kept_corner dir axis splits visited kept m b c ≡ true
    → HasOneWay (ends_at dir axis splits visited kept m b c)
    (goes_on dir axis splits visited kept m b c)
    × HasOneWay (begins_at dir axis splits visited kept m b c)
    (came_from dir axis splits visited kept m b c)
    × (ends_at dir axis splits visited kept m b c ≡ true
    → IsLastVisited (rank dir axis (splits - m) m) (extent axis (splits - m) m) (visited m)
    (vertex b c) b)
    × (begins_at dir axis splits visited kept m b c ≡ true
    → IsFirstVisited (rank dir axis (splits - m) m) (extent axis (splits - m) m) (visited m)
    (vertex b c) b)
