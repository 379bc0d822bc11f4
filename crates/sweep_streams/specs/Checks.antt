-- Small sweeps, worked out by hand, that the checker computes from the definitions.
use Rattle.std.specs.Prelude.{◌≡◌, ℕ, List, [], ◌∷◌, Option, Some, None, length, flat_map}
use Rattle.std.specs.FinSet as set
use Rattle.peano_keys.specs.declared.cell.CellKey.{CellKey}
use Rattle.peano_keys.specs.declared.dim.Dim.{Dim}
use Rattle.peano_keys.specs.declared.dim.Dim.TheVariants.{Two, Three}
use Rattle.peano_keys.specs.Cell.{root}
use Rattle.peano_keys.specs.Grid.{Cells, Spacetree}
use Rattle.peano_curve.specs.declared.order.Direction.{Direction}
use Rattle.peano_curve.specs.declared.order.Direction.TheVariants.{Forward, Backward}
use Rattle.stack_law.specs.Stack.{among, on_lane, pushed}
use Rattle.sweep_visits.specs.Plan.{SweepPlan}
use Rattle.sweep_visits.specs.Visits.{enter, visits_of}
use Rattle.sweep_visits.specs.Moves.{Passing, passing, take, pop, same_cell, moves_at, moves_of, on_lanes, taken_by, put_by}
use Rattle.sweep_visits.specs.Checks.{cell, vertex}
use Rattle.sweep_streams.specs.Records.{entered_at}
use Rattle.sweep_streams.specs.Counts.{pushed_by}

-- the refined cells are those of a list
abbrev pub AreRefined : Cells → List CellKey → Type 0
AreRefined r cs = (c : CellKey) → set.contains r c ≡ among same_cell c cs

-- a grid by its refined cells
abbrev pub grid : Dim → Cells → Spacetree
grid dim r = record { dim = dim; refined = r }

-- a sweep by its grids, its depth, its range and its direction
abbrev pub sweep : Option Spacetree → Spacetree → ℕ → ℕ → ℕ → Direction → SweepPlan
sweep old new depth lo hi dir =
    record { depth = depth; range = record { lo = lo; hi = hi }; dir = dir; old = old; new = new }

-- how many cells a sweep enters, and how many vertices it takes, puts and pushes
pub record Moves (p : SweepPlan) (cells taken put pushed : ℕ) : Type 0 where
  pub cells_are : length (flat_map entered_at (visits_of p)) ≡ cells
  pub taken_are : length (taken_by (moves_of p)) ≡ taken
  pub put_are : length (put_by (moves_of p)) ≡ put
  pub pushed_are : length (pushed_by (moves_of p)) ≡ pushed

-- the centre of nine cells
abbrev pub centre : CellKey
centre = cell 1 1 1

-- Nine cells and the root: twenty vertices, as many pushes.
abbrev pub NineCells : Type 0
NineCells = (r : Cells) → AreRefined r (root ∷ [])
    → Moves (sweep (Some (grid Two r)) (grid Two r) 1 0 9 Forward) 10 20 20 20

-- The same with the centre refined once more: twenty-four vertices are stored, and thirty-two passings go on lanes, in both directions.
abbrev pub RefinedCentre : Type 0
RefinedCentre = (r : Cells) → AreRefined r (root ∷ centre ∷ []) →
    Moves (sweep (Some (grid Two r)) (grid Two r) 2 0 81 Forward) 19 24 24 32
    × Moves (sweep (Some (grid Two r)) (grid Two r) 2 0 81 Backward) 19 24 24 32

-- A raising sweep over it takes nothing.
abbrev pub RaisedCentre : Type 0
RaisedCentre = (r : Cells) → AreRefined r (root ∷ centre ∷ [])
    → Moves (sweep None (grid Two r) 2 0 81 Forward) 19 0 24 32

-- A range that ends inside the centre cell: it holds five of the nine cells, the centre among them, and four of its nine children.
abbrev pub CutCentre : Type 0
CutCentre = (r : Cells) → AreRefined r (root ∷ centre ∷ [])
    → Moves (sweep (Some (grid Two r)) (grid Two r) 2 0 40 Forward) 10 18 18 12

-- One cell merges while its neighbour splits: the cells of both grids are visited, twenty-nine vertices of the old grid are taken, and twenty-six of the new one put.
abbrev pub OneMergesOneSplits : Type 0
OneMergesOneSplits = (old new : Cells) → AreRefined old (root ∷ cell 1 0 0 ∷ [])
    → AreRefined new (root ∷ cell 1 0 1 ∷ [])
    → Moves (sweep (Some (grid Two old)) (grid Two new) 2 0 81 Forward) 28 29 26 50

-- Twenty-seven cells in space and the root.
abbrev pub TwentySevenCells : Type 0
TwentySevenCells = (r : Cells) → AreRefined r (root ∷ [])
    → Moves (sweep (Some (grid Three r)) (grid Three r) 1 0 27 Forward) 28 72 72 152

-- what a sweep pushes on a lane, the first first
abbrev pub pushed_on : SweepPlan → ℕ → List Passing
pushed_on p k = pushed (on_lane k (on_lanes (moves_of p)))

-- What nine cells push on each of their four lanes: each vertex on its way to the next cell of its run.
abbrev pub LanesOfNineCells : Type 0
LanesOfNineCells = (r : Cells) → AreRefined r (root ∷ [])
    → (pushed_on (sweep (Some (grid Two r)) (grid Two r) 1 0 9 Forward) 0
    ≡ passing (vertex 1 2 3) (cell 1 2 2) ∷ passing (vertex 1 2 2) (cell 1 2 1)
    ∷ passing (vertex 1 2 0) (cell 1 2 0) ∷ passing (vertex 1 2 1) (cell 1 2 0) ∷ [])
    × (pushed_on (sweep (Some (grid Two r)) (grid Two r) 1 0 9 Forward) 1
    ≡ passing (vertex 1 1 0) (cell 1 1 0) ∷ passing (vertex 1 1 1) (cell 1 1 1)
    ∷ passing (vertex 1 1 2) (cell 1 1 2) ∷ passing (vertex 1 1 3) (cell 1 1 2) ∷ [])
    × (pushed_on (sweep (Some (grid Two r)) (grid Two r) 1 0 9 Forward) 2
    ≡ passing (vertex 1 0 2) (cell 1 0 2) ∷ passing (vertex 1 1 2) (cell 1 0 2)
    ∷ passing (vertex 1 1 2) (cell 1 1 1) ∷ passing (vertex 1 2 2) (cell 1 1 1)
    ∷ passing (vertex 1 2 2) (cell 1 2 2) ∷ passing (vertex 1 3 2) (cell 1 2 2) ∷ [])
    × (pushed_on (sweep (Some (grid Two r)) (grid Two r) 1 0 9 Forward) 3
    ≡ passing (vertex 1 0 1) (cell 1 0 1) ∷ passing (vertex 1 1 1) (cell 1 0 1)
    ∷ passing (vertex 1 1 1) (cell 1 1 0) ∷ passing (vertex 1 2 1) (cell 1 1 0)
    ∷ passing (vertex 1 2 1) (cell 1 2 1) ∷ passing (vertex 1 3 1) (cell 1 2 1) ∷ [])

-- With the centre refined, the centre cell finds its own four vertices: three on lanes, by falling number, and the one of whose cells it is the first in the input.
abbrev pub CentreFindsItsVertices : Type 0
CentreFindsItsVertices = (r : Cells) → AreRefined r (root ∷ centre ∷ [])
    → moves_at (sweep (Some (grid Two r)) (grid Two r) 2 0 81 Forward) (enter centre)
    ≡ pop 2 (passing (vertex 1 2 2) centre) ∷ pop 2 (passing (vertex 1 1 2) centre)
    ∷ take (vertex 1 2 1) ∷ pop 1 (passing (vertex 1 1 1) centre) ∷ []
