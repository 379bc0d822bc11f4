-- What cells pass to each other, corner by corner.
use Rattle.std.specs.Prelude.{◌≡◌, ℕ, ◌+◌, ◌-◌, ◌<◌, ◌≤◌, Bool, true, ◌&&◌, ◌↔◌, if◌then◌else◌, List, [], ◌∷◌, reverse, flat_map}
use Rattle.stack_law.specs.Boxes.{same_side, Axis, Side, Box, first, second, third, low, high, opposite, size, coord, beyond, lane, Direction}
use Rattle.stack_law.specs.Visits.{Visit, enter, leave}
use Rattle.stack_law.specs.Stack.{Event, push, pop}
use Rattle.stack_law.specs.Passings.{over_faces}
use Rattle.stack_law.specs.Around.{IsNext}
use Rattle.stack_law.specs.Order.{IsInner, IsInDomain, rank, extent}

-- a corner of a cell, by its side on each axis
pub record Corner : Type 0 where
  pub s0 : Side
  pub s1 : Side
  pub s2 : Side

-- a corner by its sides
abbrev pub corner : Side → Side → Side → Corner
corner s0 s1 s2 = record { s0 = s0; s1 = s1; s2 = s2 }

-- whether two corners are the same
abbrev pub same_corner : Corner → Corner → Bool
same_corner c d = same_side c.s0 d.s0 && (same_side c.s1 d.s1 && same_side c.s2 d.s2)

-- the corners of a cell by rising number, of which bit i is the side on axis i; in the plane those with a high third side lie on no kept vertex
abbrev pub all_corners : List Corner
all_corners = corner low low low
    ∷ (corner high low low
    ∷ (corner low high low
    ∷ (corner high high low
    ∷ (corner low low high
    ∷ (corner high low high
    ∷ (corner low high high ∷ (corner high high high ∷ [])))))))

-- a corner's side on an axis
abbrev pub side_on : Axis → Corner → Side
side_on first c = c.s0
side_on second c = c.s1
side_on third c = c.s2

-- the corner on the other side of a face
abbrev pub mate : Axis → Corner → Corner
mate first c = corner (opposite c.s0) c.s1 c.s2
mate second c = corner c.s0 (opposite c.s1) c.s2
mate third c = corner c.s0 c.s1 (opposite c.s2)

-- the vertex at a corner of a cell
abbrev pub vertex : Box → Corner → Box
vertex b c = record { x0 = b.x0 + size c.s0; x1 = b.x1 + size c.s1; x2 = b.x2 + size c.s2 }

-- `name m v q` is what passes for the vertex v to the cell q; `goes m b c i h` says that it goes on from the corner c of the cell b across
-- the face (i, h), `comes m b c i h` that it has come to the corner across the face
module _ (A : Type 0) (name : ℕ → Box → Box → A)
    (goes comes : ℕ → Box → Corner → Axis → Side → Bool) where
  -- what the corner gives across a face when its cell is left
  abbrev pub given_at : ℕ → Box → Corner → Axis → Side → List (Event A)
  given_at m b c i h = if goes m b c i h
      then record { on = lane i h b; step = push (name m (vertex b c) (beyond i h b)) } ∷ [] else []

  -- what the corner takes across a face when its cell is entered
  abbrev pub taken_at : ℕ → Box → Corner → Axis → Side → List (Event A)
  taken_at m b c i h = if comes m b c i h
      then record { on = lane i h b; step = pop (name m (vertex b c) b) } ∷ [] else []

  -- a cell takes its corners by falling number when it is entered, and gives them by rising number when it is left
  abbrev pub by_corners : Visit → List (Event A)
  by_corners (enter m b io) = flat_map (λ c. over_faces (taken_at m b c)) (reverse all_corners)
  by_corners (leave m b io) = flat_map (λ c. over_faces (given_at m b c)) all_corners

-- corners pass: a corner goes on across its own faces alone, to a later cell, and has come from where it went on
pub record Passes (place : Box → ℕ) (bound : Axis → ℕ)
    (goes comes : Box → Corner → Axis → Side → Bool) (b : Box) : Type 0 where
  pub goes_own : (c : Corner) (i : Axis) (h : Side) → goes b c i h ≡ true → side_on i c ≡ h
  pub comes_own : (c : Corner) (i : Axis) (h : Side) → comes b c i h ≡ true → side_on i c ≡ h
  pub goes_later : (c : Corner) (i : Axis) (h : Side) → goes b c i h ≡ true
      → IsInner h (coord i b) (bound i) × place b < place (beyond i h b)
  pub comes_earlier : (c : Corner) (i : Axis) (h : Side) → comes b c i h ≡ true
      → IsInner h (coord i b) (bound i) × place (beyond i h b) < place b
  pub comes_from : (c : Corner) (i : Axis) (h : Side) → side_on i c ≡ h
      → IsInner h (coord i b) (bound i) → place (beyond i h b) < place b
      → comes b c i h ≡ goes (beyond i h b) (mate i c) i (opposite h)

-- the corners of all cells pass
abbrev pub AllPass : Direction → (ℕ → Axis) → (ℕ → Bool) → ℕ
    → (ℕ → Box → Corner → Axis → Side → Bool) → (ℕ → Box → Corner → Axis → Side → Bool) → Type 0
AllPass dir axis is_cell splits goes comes = (m : ℕ) (b : Box) → is_cell m ≡ true → m ≤ splits
    → IsInDomain (extent axis (splits - m) m) b
    → Passes (rank dir axis (splits - m) m) (extent axis (splits - m) m) (goes m) (comes m) b

-- the vertex at a corner goes on to the next of the visited cells round it, and has come from the one before, where the vertex is kept and
-- that cell lies across the face
pub record PassesToNext (place : Box → ℕ) (bound : Axis → ℕ) (visited kept : Box → Bool)
    (goes comes : Box → Corner → Axis → Side → Bool) (b : Box) : Type 0 where
  pub to_next : (c : Corner) (i : Axis) (h : Side)
      → (goes b c i h ≡ true)
      ↔ (kept (vertex b c) ≡ true × side_on i c ≡ h × IsInner h (coord i b) (bound i)
      × IsNext place bound visited (vertex b c) b (beyond i h b))
  pub from_before : (c : Corner) (i : Axis) (h : Side)
      → (comes b c i h ≡ true)
      ↔ (kept (vertex b c) ≡ true × side_on i c ≡ h × IsInner h (coord i b) (bound i)
      × IsNext place bound visited (vertex b c) (beyond i h b) b)

-- so it is at the corners of all cells
abbrev pub AllPassToNext : Direction → (ℕ → Axis) → (ℕ → Bool) → ℕ → (ℕ → Box → Bool)
    → (ℕ → Box → Bool) → (ℕ → Box → Corner → Axis → Side → Bool)
    → (ℕ → Box → Corner → Axis → Side → Bool) → Type 0
AllPassToNext dir axis is_cell splits visited kept goes comes = (m : ℕ) (b : Box) → is_cell m ≡ true
    → m ≤ splits → IsInDomain (extent axis (splits - m) m) b
    → PassesToNext (rank dir axis (splits - m) m) (extent axis (splits - m) m) (visited m) (kept m)
    (goes m) (comes m) b
