-- How a kept corner goes and comes, in the words of the run of its vertex.
use Rattle.std.specs.Prelude.{◌≡◌, ◌⊎◌, ◌↔◌, ℕ, ◌<◌, true, if◌then◌else◌, List, [], ◌∷◌}
use Rattle.peano_keys.specs.declared.cell.CellKey.{CellKey}
use Rattle.peano_keys.specs.declared.vertex.VertexKey.{VertexKey}
use Rattle.peano_keys.specs.Dim.{corners}
use Rattle.peano_keys.specs.Cell.{IsCell}
use Rattle.peano_keys.specs.Vertex.{IsVertex, corner_of}
use Rattle.peano_keys.specs.Grid.{Spacetree, IsStored}
use Rattle.peano_curve.specs.Run.{HoldsCell, InRun, Follows, IsLast, IsFirst, DifferOn, lane_from}
use Rattle.sweep_visits.specs.Plan.{SweepPlan, dim_of, is_held, is_kept, is_stored, is_stored_in}
use Rattle.sweep_visits.specs.Moves.{Move, take, put, pop, push, passing, corner_in, corner_out}

-- a left corner: at the last cell of the run the vertex is put to the output where the new grid stores it, else it is given up; at any other cell it is pushed, on its way to the next one, on the lane of the axis between the two
abbrev pub Departs : SweepPlan → VertexKey → CellKey → List Move → Type 0
Departs p v c ms =
    (IsLast p.dir (dim_of p) v p.range p.depth c
    × (ms ≡ (if is_stored p.new v then put v ∷ [] else [])))
    ⊎ ((q : CellKey) × (axis : ℕ) × Follows p.dir (dim_of p) v p.range p.depth c q
    × DifferOn (dim_of p) axis c q × (ms ≡ push (lane_from v axis) (passing v q) ∷ []))

-- an entered corner: at the first cell of the run the vertex is taken from the input where the old grid stores it, else it is made; at any other cell it is popped from the lane of the axis to the one before
abbrev pub Arrives : SweepPlan → VertexKey → CellKey → List Move → Type 0
Arrives p v c ms =
    (IsFirst p.dir (dim_of p) v p.range p.depth c
    × (ms ≡ (if is_stored_in p.old v then take v ∷ [] else [])))
    ⊎ ((q : CellKey) × (axis : ℕ) × Follows p.dir (dim_of p) v p.range p.depth q c
    × DifferOn (dim_of p) axis c q × (ms ≡ pop (lane_from v axis) (passing v c) ∷ []))

-- Each kept corner of a held cell has exactly one way out and one way in: that by the held run of its vertex.
abbrev pub EachCornerHasOneWay : Type 0
EachCornerHasOneWay = (p : SweepPlan) (v : VertexKey) (c : CellKey) → IsVertex (dim_of p) v
    → InRun (dim_of p) v p.range p.depth c → is_kept p v ≡ true
    → ((ms : List Move) → Departs p v c ms ↔ (ms ≡ corner_out p c v))
    × ((ms : List Move) → Arrives p v c ms ↔ (ms ≡ corner_in p c v))

-- The tests of held cells and of stored vertices are exact.
abbrev pub TestsAreExact : Type 0
TestsAreExact =
    ((p : SweepPlan) (c : CellKey) → (is_held p c ≡ true) ↔ HoldsCell (dim_of p) p.depth p.range c)
    × ((t : Spacetree) (v : VertexKey) → IsVertex t.dim v → (is_stored t v ≡ true) ↔ IsStored t v)

-- A corner of a held cell is a vertex, and the cell is one of its run.
abbrev pub CornersHaveRuns : Type 0
CornersHaveRuns = (p : SweepPlan) (c : CellKey) (n : ℕ) → IsCell (dim_of p) c → is_held p c ≡ true
    → n < corners (dim_of p)
    → IsVertex (dim_of p) (corner_of c n) × InRun (dim_of p) (corner_of c n) p.range p.depth c
