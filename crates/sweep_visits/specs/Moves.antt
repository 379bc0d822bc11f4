-- What a visit moves: vertices from the input and to the output, and passings from lane to lane.
use Rattle.std.specs.Prelude.{ℕ, ◌==◌, ◌&&◌, Bool, true, false, if◌then◌else◌, List, [], ◌∷◌, Option, Some, None, reverse, flat_map}
use Rattle.peano_keys.specs.declared.cell.CellKey.{CellKey}
use Rattle.peano_keys.specs.declared.vertex.VertexKey.{VertexKey}
use Rattle.peano_keys.specs.Vertex.{corner_of}
use Rattle.stack_law.specs.Stack.{Event}
use Rattle.stack_law.specs.Stack as stack
use Rattle.sweep_visits.specs.Plan.{SweepPlan, dim_of, corner_numbers, is_stored, is_stored_in, is_kept}
use Rattle.sweep_visits.specs.Visits.{Visit, enter, leave, visits_of}
use Rattle.sweep_visits.specs.Runs.{next_in_run, previous_in_run, lane_between}

-- a vertex on its way to a cell
pub record Passing : Type 0 where
  pub vertex : VertexKey
  pub cell : CellKey

-- a passing by its parts
abbrev pub passing : VertexKey → CellKey → Passing
passing v q = record { vertex = v; cell = q }

-- a vertex is taken from the input or put to the output; a passing is popped from a lane or pushed on it
pub data Move : Type 0 where
  take put : VertexKey → Move
  pop push : ℕ → Passing → Move

-- where a kept corner of an entered cell comes from: the lane from the cell before it in the run; at the first cell the input, or nowhere where the vertex is made
abbrev pub arrives : SweepPlan → VertexKey → CellKey → Option CellKey → List Move
arrives p v c (Some q) = pop (lane_between v c q) (passing v c) ∷ []
arrives p v c None = if is_stored_in p.old v then take v ∷ [] else []

-- where a kept corner of a left cell goes: the lane to the next cell of the run; at the last cell the output, or nowhere where the vertex is given up
abbrev pub departs : SweepPlan → VertexKey → CellKey → Option CellKey → List Move
departs p v c (Some q) = push (lane_between v c q) (passing v q) ∷ []
departs p v c None = if is_stored p.new v then put v ∷ [] else []

-- what a corner of an entered cell moves
abbrev pub corner_in : SweepPlan → CellKey → VertexKey → List Move
corner_in p c v = if is_kept p v then arrives p v c (previous_in_run p v c) else []

-- what a corner of a left cell moves
abbrev pub corner_out : SweepPlan → CellKey → VertexKey → List Move
corner_out p c v = if is_kept p v then departs p v c (next_in_run p v c) else []

-- what a visit moves: corners come by falling number and go by rising number
abbrev pub moves_at : SweepPlan → Visit → List Move
moves_at p (enter c) =
    flat_map (λ n. corner_in p c (corner_of c n)) (reverse (corner_numbers (dim_of p)))
moves_at p (leave c) = flat_map (λ n. corner_out p c (corner_of c n)) (corner_numbers (dim_of p))

-- all moves of a sweep
abbrev pub moves_of : SweepPlan → List Move
moves_of p = flat_map (moves_at p) (visits_of p)

-- the lanes' part of a move
abbrev pub lane_part : Move → List (Event Passing)
lane_part (take v) = []
lane_part (put v) = []
lane_part (pop k x) = record { on = k; step = stack.pop x } ∷ []
lane_part (push k x) = record { on = k; step = stack.push x } ∷ []

-- the input's part
abbrev pub input_part : Move → List VertexKey
input_part (take v) = v ∷ []
input_part (put v) = []
input_part (pop k x) = []
input_part (push k x) = []

-- the output's part
abbrev pub output_part : Move → List VertexKey
output_part (take v) = []
output_part (put v) = v ∷ []
output_part (pop k x) = []
output_part (push k x) = []

-- what moves do on the lanes
abbrev pub on_lanes : List Move → List (Event Passing)
on_lanes ms = flat_map lane_part ms

-- what they take from the input, in order
abbrev pub taken_by : List Move → List VertexKey
taken_by ms = flat_map input_part ms

-- what they put to the output, in order
abbrev pub put_by : List Move → List VertexKey
put_by ms = flat_map output_part ms

-- whether two lists of coordinates are the same
abbrev pub same_coords : List ℕ → List ℕ → Bool
same_coords [] [] = true
same_coords [] (y ∷ ys) = false
same_coords (x ∷ xs) [] = false
same_coords (x ∷ xs) (y ∷ ys) = (x == y) && same_coords xs ys

-- whether two vertices are the same
abbrev pub same_vertex : VertexKey → VertexKey → Bool
same_vertex v w = (v.level == w.level) && same_coords v.v w.v

-- whether two cells are the same
abbrev pub same_cell : CellKey → CellKey → Bool
same_cell c q = (c.level == q.level) && same_coords c.x q.x

-- whether two passings are the same
abbrev pub same_passing : Passing → Passing → Bool
same_passing x y = same_vertex x.vertex y.vertex && same_cell x.cell y.cell
