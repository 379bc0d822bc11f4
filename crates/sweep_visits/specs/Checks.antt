-- Small sweeps, computed from the definitions.
use Rattle.std.specs.Prelude.{◌≡◌, ℕ, true, List, [], ◌∷◌, Some, None}
use Rattle.std.specs.FinSet as set
use Rattle.peano_keys.specs.declared.cell.CellKey.{CellKey}
use Rattle.peano_keys.specs.declared.vertex.VertexKey.{VertexKey}
use Rattle.peano_keys.specs.declared.dim.Dim.TheVariants.{Two}
use Rattle.peano_keys.specs.Cell.{root, triple}
use Rattle.peano_keys.specs.Grid.{Cells}
use Rattle.peano_curve.specs.declared.order.Direction.{Direction}
use Rattle.peano_curve.specs.declared.order.Direction.TheVariants.{Forward, Backward}
use Rattle.sweep_visits.specs.Plan.{SweepPlan}
use Rattle.sweep_visits.specs.Visits.{Visit, enter, leave, visits_of}
use Rattle.sweep_visits.specs.Runs.{next_in_run, lane_between}
use Rattle.sweep_visits.specs.Moves.{take, put, pop, push, passing, moves_at, moves_of}

-- a cell and a vertex of the plane
abbrev pub cell : ℕ → ℕ → ℕ → CellKey
cell l a b = record { level = l; x = triple a b 0 }

-- a vertex of the plane
abbrev pub vertex : ℕ → ℕ → ℕ → VertexKey
vertex l a b = record { level = l; v = triple a b 0 }

-- a plain sweep of a grid by a range
abbrev pub plain : Cells → ℕ → ℕ → ℕ → Direction → SweepPlan
plain r depth lo hi dir =
    record {
      depth = depth;
      range = record { lo = lo; hi = hi };
      dir = dir;
      old = Some (record { dim = Two; refined = r });
      new = record { dim = Two; refined = r };
    }

-- one cell alone: corners are taken by falling and put by rising number
abbrev pub OneCell : Type 0
OneCell = (r : Cells)
    → moves_of (plain r 0 0 1 Forward)
    ≡ take (vertex 0 1 1) ∷ take (vertex 0 0 1) ∷ take (vertex 0 1 0) ∷ take (vertex 0 0 0)
    ∷ put (vertex 0 0 0) ∷ put (vertex 0 1 0) ∷ put (vertex 0 0 1) ∷ put (vertex 0 1 1) ∷ []

-- both of a cell's visits
abbrev pub both : CellKey → List Visit → List Visit
both c vs = enter c ∷ leave c ∷ vs

-- a root with nine children, in the order of the curve
abbrev pub NineChildren : Type 0
NineChildren = (r : Cells) → set.contains r root ≡ true
    → (visits_of (plain r 1 0 9 Forward)
    ≡ enter (cell 0 0 0)
    ∷ both (cell 1 0 0)
    (both (cell 1 0 1)
    (both (cell 1 0 2)
    (both (cell 1 1 2)
    (both (cell 1 1 1)
    (both (cell 1 1 0)
    (both (cell 1 2 0)
    (both (cell 1 2 1)
    (both (cell 1 2 2) (leave (cell 0 0 0) ∷ []))))))))))
    × (visits_of (plain r 1 3 5 Backward)
    ≡ enter (cell 0 0 0) ∷ both (cell 1 1 1) (both (cell 1 1 2) (leave (cell 0 0 0) ∷ [])))

-- the middle one of nine children: three corners come from lanes, one from the input; then three go to lanes, one to the output
abbrev pub MiddleChild : Type 0
MiddleChild = (r : Cells) → set.contains r root ≡ true
    → (moves_at (plain r 1 0 9 Forward) (enter (cell 1 1 1))
    ≡ pop 2 (passing (vertex 1 2 2) (cell 1 1 1)) ∷ pop 2 (passing (vertex 1 1 2) (cell 1 1 1))
    ∷ take (vertex 1 2 1) ∷ pop 1 (passing (vertex 1 1 1) (cell 1 1 1)) ∷ [])
    × (moves_at (plain r 1 0 9 Forward) (leave (cell 1 1 1))
    ≡ push 3 (passing (vertex 1 1 1) (cell 1 1 0))
    ∷ push 3 (passing (vertex 1 2 1) (cell 1 1 0)) ∷ put (vertex 1 1 2)
    ∷ push 0 (passing (vertex 1 2 2) (cell 1 2 1)) ∷ [])

-- the run of the vertex between four children, and its lanes
abbrev pub RunOfFour : Type 0
RunOfFour = (r : Cells) →
    (next_in_run (plain r 1 0 9 Forward) (vertex 1 1 1) (cell 1 0 0) ≡ Some (cell 1 0 1))
    × (next_in_run (plain r 1 0 9 Forward) (vertex 1 1 1) (cell 1 0 1) ≡ Some (cell 1 1 1))
    × (next_in_run (plain r 1 0 9 Forward) (vertex 1 1 1) (cell 1 1 1) ≡ Some (cell 1 1 0))
    × (next_in_run (plain r 1 0 9 Forward) (vertex 1 1 1) (cell 1 1 0) ≡ None)
    × (next_in_run (plain r 1 0 4 Forward) (vertex 1 1 1) (cell 1 0 1) ≡ None)
    × (lane_between (vertex 1 1 1) (cell 1 0 0) (cell 1 0 1) ≡ 3)
    × (lane_between (vertex 1 1 1) (cell 1 0 1) (cell 1 1 1) ≡ 1)
