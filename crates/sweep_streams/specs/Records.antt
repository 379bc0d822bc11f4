-- The records of cells that a sweep reads and writes.
use Rattle.std.specs.Prelude.{◌≡◌, ◌↔◌, ◌<◌, ◌||◌, Bool, true, if◌then◌else◌, List, [], ◌∷◌, reverse, flat_map, map}
use Rattle.peano_keys.specs.declared.cell.CellKey.{CellKey}
use Rattle.peano_keys.specs.Cell.{IsCell, parent_of}
use Rattle.peano_keys.specs.Grid.{has_cell}
use Rattle.stack_law.specs.Once.{IsIn}
use Rattle.stack_law.specs.Stack.{AreDistinct}
use Rattle.sweep_visits.specs.Plan.{SweepPlan, IsSweepPlan, dim_of, is_held, is_cell_in, is_visited, is_opened}
use Rattle.sweep_visits.specs.Visits.{Visit, enter, leave, visits_of}
use Rattle.sweep_visits.specs.Runs.{turned_round}
use Rattle.sweep_visits.specs.Moves.{same_cell}
use Rattle.sweep_streams.specs.Streams.{ComesAfter}

-- an enter of a cell of the old grid reads its record
abbrev pub read_at : SweepPlan → Visit → List CellKey
read_at p (enter c) = if is_cell_in p.old c then c ∷ [] else []
read_at p (leave c) = []

-- a leave of a cell of the new grid writes its record
abbrev pub written_at : SweepPlan → Visit → List CellKey
written_at p (enter c) = []
written_at p (leave c) = if has_cell p.new c then c ∷ [] else []

-- the cells whose records a sweep reads, in order
abbrev pub read_by : SweepPlan → List CellKey
read_by p = flat_map (read_at p) (visits_of p)

-- and those whose records it writes
abbrev pub written_by : SweepPlan → List CellKey
written_by p = flat_map (written_at p) (visits_of p)

-- a cell that the tree holds and that passes a test
pub record IsHeldCell (p : SweepPlan) (test : CellKey → Bool) (c : CellKey) : Type 0 where
  pub cell : IsCell (dim_of p) c
  pub held : is_held p c ≡ true
  pub passes : test c ≡ true

-- a list has each of these cells once
pub record ListsCells (p : SweepPlan) (test : CellKey → Bool) (cs : List CellKey) : Type 0 where
  pub distinct : AreDistinct same_cell cs
  pub members : (c : CellKey) → IsIn c cs ↔ IsHeldCell p test c

-- A sweep reads the record of each held cell of the old grid, and writes that of each held cell of the new one, once.
abbrev pub RecordsAreOfHeldCells : Type 0
RecordsAreOfHeldCells = (p : SweepPlan) → IsSweepPlan p
    → ListsCells p (is_cell_in p.old) (read_by p) × ListsCells p (has_cell p.new) (written_by p)

-- The records that a sweep writes, read from their end, are those that the next sweep reads.
abbrev pub NextSweepReadsTheRecords : Type 0
NextSweepReadsTheRecords = (p q : SweepPlan) → IsSweepPlan p → IsSweepPlan q → ComesAfter p q
    → reverse (written_by p) ≡ read_by q

-- a cell of the old or the new grid
abbrev pub in_grids : SweepPlan → CellKey → Bool
in_grids p c = is_cell_in p.old c || has_cell p.new c

-- the cell that a visit enters
abbrev pub entered_at : Visit → List CellKey
entered_at (enter c) = c ∷ []
entered_at (leave c) = []

-- the cell that it leaves
abbrev pub left_at : Visit → List CellKey
left_at (enter c) = []
left_at (leave c) = c ∷ []

-- Each held cell of the old or the new grid is entered once and left once.
abbrev pub EachHeldCellOnce : Type 0
EachHeldCellOnce = (p : SweepPlan) → IsSweepPlan p
    → ListsCells p (in_grids p) (flat_map entered_at (visits_of p))
    × ListsCells p (in_grids p) (flat_map left_at (visits_of p))

-- The parent of a visited cell is visited, and the sweep goes below it.
abbrev pub ParentsAreVisited : Type 0
ParentsAreVisited = (p : SweepPlan) → IsSweepPlan p → (c : CellKey) → 0 < c.level
    → is_visited p c ≡ true
    → (is_visited p (parent_of c) ≡ true) × (is_opened p (parent_of c) ≡ true)

-- the sweep the other way
abbrev pub turned_plan : SweepPlan → SweepPlan
turned_plan p =
    record { depth = p.depth; range = p.range; dir = turned_round p.dir; old = p.old; new = p.new }

-- an enter is a leave the other way
abbrev pub turned_visit : Visit → Visit
turned_visit (enter c) = leave c
turned_visit (leave c) = enter c

-- A sweep the other way makes the same visits from the last to the first, with enters and leaves exchanged.
abbrev pub BackwardSweepIsReversed : Type 0
BackwardSweepIsReversed = (p : SweepPlan)
    → visits_of (turned_plan p) ≡ reverse (map turned_visit (visits_of p))
