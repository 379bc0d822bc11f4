-- The order in which a walk takes kept vertices from its input and gives them to its output.
use Rattle.std.specs.Prelude.{◌≡◌, ℕ, ◌-◌, ◌≤◌, Bool, true, if◌then◌else◌, List, [], ◌∷◌, reverse, flat_map}
use Rattle.stack_law.specs.Boxes.{Axis, Box, Direction}
use Rattle.stack_law.specs.Visits.{Visit, enter, leave}
use Rattle.stack_law.specs.Order.{IsInDomain, extent}
use Rattle.stack_law.specs.Around.{Touches}
use Rattle.stack_walks.specs.Corners.{all_corners, vertex}
use Rattle.stack_walks.specs.Handing.{ends_at, begins_at}

-- `name m v` is what the streams hold for the vertex v of the level with m splits left
module _ (A : Type 0) (name : ℕ → Box → A) (dir : Direction) (axis : ℕ → Axis) (splits : ℕ)
    (visited kept : ℕ → Box → Bool) where
  -- at its enter a cell takes from the input, by falling number, the corners that begin at it
  abbrev pub taken_in : Visit → List A
  taken_in (enter m b io) = flat_map
      (λ c. if begins_at dir axis splits visited kept m b c then name m (vertex b c) ∷ [] else [])
      (reverse all_corners)
  taken_in (leave m b io) = []

  -- at its leave a cell gives to the output, by rising number, the corners that end at it
  abbrev pub given_out : Visit → List A
  given_out (enter m b io) = []
  given_out (leave m b io) = flat_map
      (λ c. if ends_at dir axis splits visited kept m b c then name m (vertex b c) ∷ []
      else []) all_corners

-- round each kept vertex two walks visit the same cells
abbrev pub AgreeRoundKept : (ℕ → Axis) → (ℕ → Bool) → ℕ → (ℕ → Box → Bool) → (ℕ → Box → Bool)
    → (ℕ → Box → Bool) → Type 0
AgreeRoundKept axis is_cell splits visited visited' kept = (m : ℕ) (v b : Box) → is_cell m ≡ true
    → m ≤ splits → kept m v ≡ true → IsInDomain (extent axis (splits - m) m) b → Touches v b
    → visited m b ≡ visited' m b
