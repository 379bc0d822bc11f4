-- One item for each face between two cells of a grid.
use Rattle.std.specs.Prelude.{ℕ, ◌&&◌, Bool, if◌then◌else◌, List, [], ◌∷◌}
use Rattle.stack_law.specs.Boxes.{Axis, Side, Box, beyond, lane}
use Rattle.stack_law.specs.Visits.{Faces, Visit, enter, leave}
use Rattle.stack_law.specs.Stack.{Event, push, pop}
use Rattle.stack_law.specs.Passings.{over_faces, at_entry, at_exit}

-- `name m p q` is what the cell p gives to its neighbour q
module _ (A : Type 0) (name : ℕ → Box → Box → A) (cells : ℕ → Box → Bool) where
  -- a grid cell gives to a grid cell across a face that is left
  abbrev pub given_across : ℕ → Box → Faces → Axis → Side → List (Event A)
  given_across m b io i h = at_exit (io i h)
      (if cells m b && cells m (beyond i h b)
      then record { on = lane i h b; step = push (name m b (beyond i h b)) } ∷ [] else [])

  -- it takes from a grid cell across a face that is entered
  abbrev pub taken_across : ℕ → Box → Faces → Axis → Side → List (Event A)
  taken_across m b io i h = at_entry (io i h)
      (if cells m (beyond i h b) && cells m b
      then record { on = lane i h b; step = pop (name m (beyond i h b) b) } ∷ [] else [])

  -- what a visit does on the lanes
  abbrev pub by_faces : Visit → List (Event A)
  by_faces (enter m b io) = over_faces (taken_across m b io)
  by_faces (leave m b io) = over_faces (given_across m b io)
