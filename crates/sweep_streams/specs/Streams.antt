-- The output of a sweep is the input of the next, and no vertex stands twice in either.
use Rattle.std.specs.Prelude.{◌≡◌, Some, reverse}
use Rattle.stack_law.specs.Stack.{AreDistinct}
use Rattle.sweep_visits.specs.Plan.{SweepPlan, IsSweepPlan}
use Rattle.sweep_visits.specs.Runs.{turned_round}
use Rattle.sweep_visits.specs.Moves.{same_vertex, moves_of, taken_by, put_by}

-- a sweep comes right after another: it turns round and goes from the grid that the other one made
pub record ComesAfter (p q : SweepPlan) : Type 0 where
  pub depth : q.depth ≡ p.depth
  pub range : q.range ≡ p.range
  pub dir : q.dir ≡ turned_round p.dir
  pub old : q.old ≡ Some p.new

-- The output of a sweep, read from its end, is what the next sweep takes from its input.
abbrev pub NextSweepReadsTheOutput : Type 0
NextSweepReadsTheOutput = (p q : SweepPlan) → IsSweepPlan p → IsSweepPlan q → ComesAfter p q
    → reverse (put_by (moves_of p)) ≡ taken_by (moves_of q)

-- No vertex is taken twice from the input, and none is put twice to the output.
abbrev pub NoneTakenTwice : Type 0
NoneTakenTwice = (p : SweepPlan) → IsSweepPlan p
    → AreDistinct same_vertex (taken_by (moves_of p))
    × AreDistinct same_vertex (put_by (moves_of p))
