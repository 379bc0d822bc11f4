-- How a cell finds, among its neighbours alone, where the vertex at a corner goes next and where it came from.
use Rattle.std.specs.Prelude.{◌≡◌, ℕ, ◌+◌, ◌-◌, ◌≤◌, nat_lt, nat_le, Bool, true, not, ◌&&◌, ◌||◌}
use Rattle.stack_law.specs.Boxes.{Axis, Side, Box, Direction, first, second, third, low, high, same_side, coord, beyond, turned_round}
use Rattle.stack_law.specs.Order.{rank, extent}
use Rattle.stack_law.specs.Around.{IsUnbroken}
use Rattle.stack_walks.specs.Corners.{Corner, side_on, vertex}

-- whether a box lies across the face, inside the domain
abbrev pub has_neighbour : Side → ℕ → ℕ → Bool
has_neighbour low x e = nat_lt 0 x
has_neighbour high x e = nat_lt (x + 1) e

module _ (place : Box → ℕ) (bound : Axis → ℕ) (visited : Box → Bool) where
  -- a visited cell lies across the face and comes later
  abbrev pub leads_later : Box → Axis → Side → Bool
  leads_later b i h = has_neighbour h (coord i b) (bound i)
      && (visited (beyond i h b) && nat_lt (place b) (place (beyond i h b)))

  -- the corner's face on axis j leads to no later cell, or to one that does not come before the cell across the face (i, h)
  abbrev pub not_sooner : Box → Corner → Axis → Side → Axis → Bool
  not_sooner b c i h j = not (leads_later b j (side_on j c))
      || nat_le (place (beyond i h b)) (place (beyond j (side_on j c) b))

  -- of the corner's faces, (i, h) leads to the soonest of the later cells
  abbrev pub leads_next : Box → Corner → Axis → Side → Bool
  leads_next b c i h = same_side (side_on i c) h
      && (leads_later b i h
      && (not_sooner b c i h first && (not_sooner b c i h second && not_sooner b c i h third)))

  -- none of the corner's faces leads to a later cell
  abbrev pub leads_nowhere : Box → Corner → Bool
  leads_nowhere b c = not (leads_later b first c.s0)
      && (not (leads_later b second c.s1) && not (leads_later b third c.s2))

-- `visited m b`: the cell b with m splits left is visited; `kept m v`: the vertex v of that level is kept
module _ (dir : Direction) (axis : ℕ → Axis) (splits : ℕ) (visited kept : ℕ → Box → Bool) where
  -- a kept vertex at a corner of a visited cell
  abbrev pub has_kept_corner : ℕ → Box → Corner → Bool
  has_kept_corner m b c = visited m b && kept m (vertex b c)

  -- a kept vertex goes on from the corner c of a visited cell across the face (i, h)
  abbrev pub goes_on : ℕ → Box → Corner → Axis → Side → Bool
  goes_on m b c i h = has_kept_corner m b c
      && leads_next (rank dir axis (splits - m) m) (extent axis (splits - m) m) (visited m) b c i h

  -- it has come from there: in the walk the other way it would go on there
  abbrev pub came_from : ℕ → Box → Corner → Axis → Side → Bool
  came_from m b c i h = has_kept_corner m b c
      && leads_next (rank (turned_round dir) axis (splits - m) m) (extent axis (splits - m) m)
      (visited m) b c i h

  -- it goes nowhere: the cell is the last of those that are visited round it, and gives it to the output
  abbrev pub ends_at : ℕ → Box → Corner → Bool
  ends_at m b c = has_kept_corner m b c
      && leads_nowhere (rank dir axis (splits - m) m) (extent axis (splits - m) m) (visited m) b c

  -- it came from nowhere: the cell is the first of those, and takes it from the input
  abbrev pub begins_at : ℕ → Box → Corner → Bool
  begins_at m b c = has_kept_corner m b c
      && leads_nowhere (rank (turned_round dir) axis (splits - m) m) (extent axis (splits - m) m)
      (visited m) b c

  -- round each kept vertex the visited cells are unbroken
  abbrev pub KeptUnbroken : (ℕ → Bool) → Type 0
  KeptUnbroken is_cell = (m : ℕ) (v : Box) → is_cell m ≡ true → m ≤ splits → kept m v ≡ true
      → IsUnbroken (rank dir axis (splits - m) m) (extent axis (splits - m) m) (visited m) v
