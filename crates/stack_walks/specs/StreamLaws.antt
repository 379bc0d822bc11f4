-- Laws: the output of a walk, read from its end, is the input of the next.
use Rattle.std.specs.Prelude.{◌≡◌, ℕ, Bool, reverse, flat_map}
use Rattle.stack_law.specs.Boxes.{Axis, Box, Direction, turned_round}
use Rattle.stack_law.specs.Visits.{visits, walls}
use Rattle.stack_walks.specs.Streams.{taken_in, given_out, AgreeRoundKept}
use Rattle.stack_law.specs.Domain.{root}

-- What a walk gives to its output, read from its end, is what a walk the other way takes from its input, where both keep the same vertices
-- and visit the same cells round them. So a walk of one grid is followed by a walk of the same grid, and a walk of the cells of an old and a
-- new grid by a walk of the new one.
abbrev pub OutputTurnedIsInput : Type 0 → Type 0
OutputTurnedIsInput A = (name : ℕ → Box → A) (dir : Direction) (axis : ℕ → Axis)
    (is_cell : ℕ → Bool) (splits : ℕ) (visited visited' kept : ℕ → Box → Bool)
    → AgreeRoundKept axis is_cell splits visited visited' kept
    → reverse
    (flat_map (given_out A name dir axis splits visited kept)
    (visits dir axis is_cell splits root walls))
    ≡ flat_map (taken_in A name (turned_round dir) axis splits visited' kept)
    (visits (turned_round dir) axis is_cell splits root walls)
