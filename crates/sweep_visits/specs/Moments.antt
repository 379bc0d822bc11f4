-- The lists of a sweep at a moment, between the moves that were made and those to come.
use Rattle.std.specs.Prelude.{◌≡◌, ◌≢◌, ℕ, zero, suc, ◌+◌, List, [], ◌∷◌, ◌++◌, map, flat_map}
use Rattle.peano_keys.specs.declared.vertex.VertexKey.{VertexKey}
use Rattle.peano_keys.specs.declared.cell.CellKey.{CellKey}
use Rattle.peano_keys.specs.Dim.{corners}
use Rattle.peano_keys.specs.Vertex.{corner_of}
use Rattle.stack_law.specs.Stack.{on_lane, pushed, popped, without}
use Rattle.sweep_visits.specs.Plan.{SweepPlan, IsSweepPlan, dim_of}
use Rattle.sweep_visits.specs.Visits.{Visit, enter, leave, visits_of}
use Rattle.sweep_visits.specs.Moves.{Passing, Move, take, put, pop, push, corner_in, corner_out, moves_at, moves_of, on_lanes, taken_by, put_by, input_part, output_part, same_passing}

-- the input begins with the vertex that is taken next; the output and the lanes are oldest first
pub record VertexLists : Type 0 where
  pub input : List VertexKey
  pub output : List VertexKey
  pub lanes : ℕ → List VertexKey

-- the passings that moves gave to a lane and did not take, in the order in which they were given
abbrev pub passings_on : List Move → ℕ → List Passing
passings_on ms k =
    without same_passing (popped (on_lane k (on_lanes ms))) (pushed (on_lane k (on_lanes ms)))

-- their vertices
abbrev pub vertices_on : List Move → ℕ → List VertexKey
vertices_on ms k = map (λ x. x.vertex) (passings_on ms k)

-- the lists at a moment of a sweep
pub record IsMoment (p : SweepPlan) (made more : List Move) (a : VertexLists) : Type 0 where
  pub moves : moves_of p ≡ made ++ more
  pub input : a.input ≡ taken_by more
  pub output : a.output ≡ put_by made
  pub lanes : (k : ℕ) → a.lanes k ≡ vertices_on made k

-- what a move does to the lanes: a vertex is pushed on the end of one, or popped from there, and the others stay
abbrev pub MovesLanes : Move → (ℕ → List VertexKey) → (ℕ → List VertexKey) → Type 0
MovesLanes (take v) a b = (k : ℕ) → b k ≡ a k
MovesLanes (put v) a b = (k : ℕ) → b k ≡ a k
MovesLanes (pop n x) a b = (a n ≡ b n ++ x.vertex ∷ []) × ((k : ℕ) → k ≢ n → b k ≡ a k)
MovesLanes (push n x) a b = (b n ≡ a n ++ x.vertex ∷ []) × ((k : ℕ) → k ≢ n → b k ≡ a k)

-- what a move does: a vertex is taken from the front of the input, or put at the end of the output, or lanes change
pub record Does (x : Move) (a b : VertexLists) : Type 0 where
  pub input : a.input ≡ input_part x ++ b.input
  pub output : b.output ≡ a.output ++ output_part x
  pub lanes : MovesLanes x a.lanes b.lanes

-- The next move can be made: the vertex that it takes is the first of the input, the vertex that it pops is the last of its lane. And it leads to the next moment.
abbrev pub EachMoveFindsItsVertex : Type 0
EachMoveFindsItsVertex = (p : SweepPlan) → IsSweepPlan p
    → (made more : List Move) (x : Move) (a : VertexLists) → IsMoment p made (x ∷ more) a
    → ((b : VertexLists) × Does x a b)
    × ((b : VertexLists) → Does x a b → IsMoment p (made ++ x ∷ []) more b)

-- the lists where a sweep begins
abbrev pub lists_before : SweepPlan → VertexLists
lists_before p = record { input = taken_by (moves_of p); output = []; lanes = λ k. [] }

-- and where it ends: the input and all lanes are empty
abbrev pub lists_after : SweepPlan → VertexLists
lists_after p = record { input = []; output = put_by (moves_of p); lanes = λ k. [] }

-- A sweep begins and ends with empty lanes; it takes the whole input.
abbrev pub SweepBeginsAndEnds : Type 0
SweepBeginsAndEnds = (p : SweepPlan) → IsSweepPlan p
    → IsMoment p [] (moves_of p) (lists_before p)
    × ((a : VertexLists) → IsMoment p (moves_of p) [] a → a ≡ lists_after p)

-- the moves of some visits
abbrev pub moves_by : SweepPlan → List Visit → List Move
moves_by p vs = flat_map (moves_at p) vs

-- Visits that were made and visits to come part the moves.
abbrev pub VisitsSplitMoves : Type 0
VisitsSplitMoves = (p : SweepPlan) (made more : List Visit) → visits_of p ≡ made ++ more
    → moves_of p ≡ moves_by p made ++ moves_by p more

-- what the corners below a number move when their cell is entered, the last first
abbrev pub arrivals_below : SweepPlan → CellKey → ℕ → List Move
arrivals_below p c zero = []
arrivals_below p c (suc n) = corner_in p c (corner_of c n) ++ arrivals_below p c n

-- what `more` corners from a number on move when their cell is left
abbrev pub departures_from : SweepPlan → CellKey → ℕ → ℕ → List Move
departures_from p c n zero = []
departures_from p c n (suc more) = corner_out p c (corner_of c n)
    ++ departures_from p c (n + 1) more

-- A visit moves its corners one after another.
abbrev pub CornersInTurn : Type 0
CornersInTurn = (p : SweepPlan) (c : CellKey)
    → (moves_at p (enter c) ≡ arrivals_below p c (corners (dim_of p)))
    × (moves_at p (leave c) ≡ departures_from p c 0 (corners (dim_of p)))
