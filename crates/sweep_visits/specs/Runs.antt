-- The next cell of a vertex's run, and the lane between two cells of it, as functions.
use Rattle.std.specs.Prelude.{ℕ, ◌==◌, nat_lt, Bool, if◌then◌else◌, List, [], ◌∷◌, ◌++◌, Option, Some, None}
use Rattle.peano_keys.specs.declared.cell.CellKey.{CellKey}
use Rattle.peano_keys.specs.declared.vertex.VertexKey.{VertexKey}
use Rattle.peano_keys.specs.declared.dim.Dim.{Dim}
use Rattle.peano_keys.specs.Cell.{at}
use Rattle.peano_keys.specs.Vertex.{adjacent_of}
use Rattle.peano_curve.specs.declared.order.Direction.{Direction}
use Rattle.peano_curve.specs.declared.order.Direction.TheVariants.{Forward, Backward}
use Rattle.peano_curve.specs.Order.{rank_of}
use Rattle.peano_curve.specs.Run.{lane_from}
use Rattle.sweep_visits.specs.Plan.{SweepPlan, dim_of, is_held, corner_numbers}

-- the other direction
abbrev pub turned_round : Direction → Direction
turned_round Forward = Backward
turned_round Backward = Forward

-- whether a number comes before another along a direction
abbrev pub is_before : Direction → ℕ → ℕ → Bool
is_before Forward a b = nat_lt a b
is_before Backward a b = nat_lt b a

-- whether a cell comes before another along the curve
abbrev pub is_earlier : Dim → Direction → CellKey → CellKey → Bool
is_earlier dim dir c q = is_before dir (rank_of dim c) (rank_of dim q)

-- the earlier of two cells
abbrev pub earlier : Dim → Direction → CellKey → Option CellKey → Option CellKey
earlier dim dir q None = Some q
earlier dim dir q (Some r) = if is_earlier dim dir r q then Some r else Some q

-- the first of those cells of a list that come after `c`
abbrev pub next_among : Dim → Direction → CellKey → List CellKey → Option CellKey
next_among dim dir c [] = None
next_among dim dir c (q ∷ qs) = if is_earlier dim dir c q
    then earlier dim dir q (next_among dim dir c qs) else next_among dim dir c qs

-- the cell at a position, where there is one that is held
abbrev pub held_cell : (CellKey → Bool) → Option CellKey → List CellKey
held_cell held None = []
held_cell held (Some q) = if held q then q ∷ [] else []

-- the held cells at positions round a vertex
abbrev pub held_at : Dim → (CellKey → Bool) → VertexKey → List ℕ → List CellKey
held_at dim held v [] = []
held_at dim held v (n ∷ ns) = held_cell held (adjacent_of dim v n) ++ held_at dim held v ns

-- the cells that the tree holds round a vertex
abbrev pub held_round : SweepPlan → VertexKey → List CellKey
held_round p v = held_at (dim_of p) (is_held p) v (corner_numbers (dim_of p))

-- the next cell of a vertex's run after `c`
abbrev pub next_in_run : SweepPlan → VertexKey → CellKey → Option CellKey
next_in_run p v c = next_among (dim_of p) p.dir c (held_round p v)

-- the one before it
abbrev pub previous_in_run : SweepPlan → VertexKey → CellKey → Option CellKey
previous_in_run p v c = next_among (dim_of p) (turned_round p.dir) c (held_round p v)

-- the first axis on which two cells differ
abbrev pub axis_between : CellKey → CellKey → ℕ
axis_between c q = if at c 0 == at q 0 then (if at c 1 == at q 1 then 2 else 1) else 0

-- the lane by which a vertex passes between two cells
abbrev pub lane_between : VertexKey → CellKey → CellKey → ℕ
lane_between v c q = lane_from v (axis_between c q)
