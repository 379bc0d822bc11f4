-- The corners of cells of the refined centre, in a sweep of the whole plane: from which list each comes as its cell is entered, the last corner first, and to
-- which it goes as the cell is left. A corner that hangs comes from none and goes to none. Counted by sets of cells and vertices.
use Rattle.std.specs.Prelude.{◌≡◌, true, false, List, [], ◌∷◌}
use Rattle.std.specs.FinSet as set
use Rattle.peano_keys.specs.declared.cell.CellKey.{CellKey}
use Rattle.peano_keys.specs.declared.dim.Dim.TheVariants.{Two}
use Rattle.peano_keys.specs.Grid.{Cells}
use Rattle.peano_curve.specs.declared.order.Direction.TheVariants.{Forward, Backward}
use Rattle.sweep_visits.specs.Plan.{SweepPlan}
use Rattle.sweep_visits.specs.Visits.{enter, leave}
use Rattle.sweep_visits.specs.Moves.{Move, take, put, pop, push, passing, moves_at}
use Rattle.sweep_visits.specs.Checks.{cell, vertex, plain}

-- the root and its centre child are refined, and no other child is
pub record IsRefinedCentre (r : Cells) : Type 0 where
  pub root : set.contains r (cell 0 0 0) ≡ true
  pub centre : set.contains r (cell 1 1 1) ≡ true
  pub low_low : set.contains r (cell 1 0 0) ≡ false
  pub low_middle : set.contains r (cell 1 0 1) ≡ false
  pub low_high : set.contains r (cell 1 0 2) ≡ false
  pub middle_low : set.contains r (cell 1 1 0) ≡ false
  pub middle_high : set.contains r (cell 1 1 2) ≡ false
  pub high_low : set.contains r (cell 1 2 0) ≡ false
  pub high_middle : set.contains r (cell 1 2 1) ≡ false
  pub high_high : set.contains r (cell 1 2 2) ≡ false

-- sweeps of the whole grid
abbrev pub forward : Cells → SweepPlan
forward r = plain r 2 0 81 Forward

-- and backward
abbrev pub backward : Cells → SweepPlan
backward r = plain r 2 0 81 Backward

-- what the enter of a cell moves, and what its leave moves
abbrev pub Moves : SweepPlan → CellKey → List Move → List Move → Type 0
Moves p c taken given = (moves_at p (enter c) ≡ taken) × (moves_at p (leave c) ≡ given)

-- the middle leaf of the nine: no corner hangs
abbrev pub MiddleLeaf : Type 0
MiddleLeaf = (r : Cells) → IsRefinedCentre r
    → Moves (forward r) (cell 2 4 4)
    (pop 1 (passing (vertex 2 5 5) (cell 2 4 4)) ∷ take (vertex 2 4 5)
    ∷ pop 2 (passing (vertex 2 5 4) (cell 2 4 4))
    ∷ pop 2 (passing (vertex 2 4 4) (cell 2 4 4)) ∷ [])
    (push 0 (passing (vertex 2 4 4) (cell 2 3 4)) ∷ put (vertex 2 5 4)
    ∷ push 3 (passing (vertex 2 4 5) (cell 2 4 5))
    ∷ push 3 (passing (vertex 2 5 5) (cell 2 4 5)) ∷ [])
    × Moves (backward r) (cell 2 4 4)
    (pop 3 (passing (vertex 2 5 5) (cell 2 4 4))
    ∷ pop 3 (passing (vertex 2 4 5) (cell 2 4 4)) ∷ take (vertex 2 5 4)
    ∷ pop 0 (passing (vertex 2 4 4) (cell 2 4 4)) ∷ [])
    (push 2 (passing (vertex 2 4 4) (cell 2 4 3))
    ∷ push 2 (passing (vertex 2 5 4) (cell 2 4 3)) ∷ put (vertex 2 4 5)
    ∷ push 1 (passing (vertex 2 5 5) (cell 2 5 4)) ∷ [])

-- the leaf that comes first along the curve: one corner is stored, and three hang
abbrev pub FirstLeaf : Type 0
FirstLeaf = (r : Cells) → IsRefinedCentre r →
    Moves (forward r) (cell 2 5 5)
    (take (vertex 2 5 5) ∷ [])
    (push 3 (passing (vertex 2 5 5) (cell 2 5 4)) ∷ [])
    × Moves (backward r) (cell 2 5 5)
    (pop 3 (passing (vertex 2 5 5) (cell 2 5 5)) ∷ [])
    (put (vertex 2 5 5) ∷ [])

-- the one after it: two corners hang
abbrev pub SecondLeaf : Type 0
SecondLeaf = (r : Cells) → IsRefinedCentre r
    → Moves (forward r) (cell 2 5 4)
    (pop 3 (passing (vertex 2 5 5) (cell 2 5 4)) ∷ take (vertex 2 5 4) ∷ [])
    (push 2 (passing (vertex 2 5 4) (cell 2 5 3)) ∷ push 1 (passing (vertex 2 5 5) (cell 2 4 4))
    ∷ [])
    × Moves (backward r) (cell 2 5 4)
    (pop 1 (passing (vertex 2 5 5) (cell 2 5 4))
    ∷ pop 2 (passing (vertex 2 5 4) (cell 2 5 4)) ∷ [])
    (put (vertex 2 5 4) ∷ push 3 (passing (vertex 2 5 5) (cell 2 5 5)) ∷ [])

-- the leaf that comes last
abbrev pub LastLeaf : Type 0
LastLeaf = (r : Cells) → IsRefinedCentre r →
    Moves (forward r) (cell 2 3 3)
    (pop 2 (passing (vertex 2 4 4) (cell 2 3 3)) ∷ [])
    (put (vertex 2 4 4) ∷ [])
    × Moves (backward r) (cell 2 3 3)
    (take (vertex 2 4 4) ∷ [])
    (push 2 (passing (vertex 2 4 4) (cell 2 3 4)) ∷ [])

-- the refined cell itself, whose corners are stored
abbrev pub RefinedCell : Type 0
RefinedCell = (r : Cells) → IsRefinedCentre r
    → Moves (forward r) (cell 1 1 1)
    (pop 2 (passing (vertex 1 2 2) (cell 1 1 1)) ∷ pop 2 (passing (vertex 1 1 2) (cell 1 1 1))
    ∷ take (vertex 1 2 1) ∷ pop 1 (passing (vertex 1 1 1) (cell 1 1 1)) ∷ [])
    (push 3 (passing (vertex 1 1 1) (cell 1 1 0)) ∷ push 3 (passing (vertex 1 2 1) (cell 1 1 0))
    ∷ put (vertex 1 1 2) ∷ push 0 (passing (vertex 1 2 2) (cell 1 2 1)) ∷ [])
    × Moves (backward r) (cell 1 1 1)
    (pop 0 (passing (vertex 1 2 2) (cell 1 1 1)) ∷ take (vertex 1 1 2)
    ∷ pop 3 (passing (vertex 1 2 1) (cell 1 1 1))
    ∷ pop 3 (passing (vertex 1 1 1) (cell 1 1 1)) ∷ [])
    (push 1 (passing (vertex 1 1 1) (cell 1 0 1)) ∷ put (vertex 1 2 1)
    ∷ push 2 (passing (vertex 1 1 2) (cell 1 1 2))
    ∷ push 2 (passing (vertex 1 2 2) (cell 1 1 2)) ∷ [])

-- the middle leaf in a tree whose range begins with it: what the cells before it gave comes from the input
abbrev pub CutLeaf : Type 0
CutLeaf = (r : Cells) → IsRefinedCentre r →
    Moves (plain r 2 40 81 Forward) (cell 2 4 4)
    (take (vertex 2 5 5) ∷ take (vertex 2 4 5) ∷ take (vertex 2 5 4) ∷ take (vertex 2 4 4) ∷ [])
    (push 0 (passing (vertex 2 4 4) (cell 2 3 4)) ∷ put (vertex 2 5 4)
    ∷ push 3 (passing (vertex 2 4 5) (cell 2 4 5)) ∷ push 3 (passing (vertex 2 5 5) (cell 2 4 5))
    ∷ [])
    × Moves (plain r 2 40 81 Backward) (cell 2 4 4)
    (pop 3 (passing (vertex 2 5 5) (cell 2 4 4)) ∷ pop 3 (passing (vertex 2 4 5) (cell 2 4 4))
    ∷ take (vertex 2 5 4) ∷ pop 0 (passing (vertex 2 4 4) (cell 2 4 4)) ∷ [])
    (put (vertex 2 4 4) ∷ put (vertex 2 5 4) ∷ put (vertex 2 4 5) ∷ put (vertex 2 5 5) ∷ [])

-- the root is refined, and its centre child is not
pub record IsCoarseCentre (r : Cells) : Type 0 where
  pub root : set.contains r (cell 0 0 0) ≡ true
  pub centre : set.contains r (cell 1 1 1) ≡ false

-- a sweep of the whole domain that leads from one grid to another
abbrev pub between : Cells → Cells → SweepPlan
between r s = record (forward r) { new = record { dim = Two; refined = s } }

-- the middle leaf as the centre merges: what was put before is given up
abbrev pub MergedLeaf : Type 0
MergedLeaf = (r s : Cells) → IsRefinedCentre r → IsCoarseCentre s →
    Moves (between r s) (cell 2 4 4)
    (pop 1 (passing (vertex 2 5 5) (cell 2 4 4)) ∷ take (vertex 2 4 5)
    ∷ pop 2 (passing (vertex 2 5 4) (cell 2 4 4)) ∷ pop 2 (passing (vertex 2 4 4) (cell 2 4 4))
    ∷ [])
    (push 0 (passing (vertex 2 4 4) (cell 2 3 4)) ∷ push 3 (passing (vertex 2 4 5) (cell 2 4 5))
    ∷ push 3 (passing (vertex 2 5 5) (cell 2 4 5)) ∷ [])

-- the middle leaf as the centre splits: what was taken before is made
abbrev pub SplitLeaf : Type 0
SplitLeaf = (r s : Cells) → IsCoarseCentre r → IsRefinedCentre s →
    Moves (between r s) (cell 2 4 4)
    (pop 1 (passing (vertex 2 5 5) (cell 2 4 4)) ∷ pop 2 (passing (vertex 2 5 4) (cell 2 4 4))
    ∷ pop 2 (passing (vertex 2 4 4) (cell 2 4 4)) ∷ [])
    (push 0 (passing (vertex 2 4 4) (cell 2 3 4)) ∷ put (vertex 2 5 4)
    ∷ push 3 (passing (vertex 2 4 5) (cell 2 4 5)) ∷ push 3 (passing (vertex 2 5 5) (cell 2 4 5))
    ∷ [])
