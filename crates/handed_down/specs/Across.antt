-- The cells round a corner of a cell: which comes next and which came before, of all and of those that a range holds.
use Rattle.std.specs.Prelude.{◌≡◌, ℕ, ◌+◌, ◌/◌, ◌%◌, ◌==◌, ◌<◌, ◌≤◌, true, Some}
use Rattle.peano_keys.specs.declared.cell.CellKey.{CellKey}
use Rattle.peano_keys.specs.declared.dim.Dim.{Dim}
use Rattle.peano_keys.specs.Dim.{axes}
use Rattle.peano_keys.specs.Cell.{IsCell, at, neighbour_of}
use Rattle.peano_keys.specs.Vertex.{bit_of, corner_of}
use Rattle.peano_keys.specs.Field.{face_on}
use Rattle.peano_curve.specs.declared.order.Direction.{Direction}
use Rattle.peano_curve.specs.declared.range.Range.{Range}
use Rattle.peano_curve.specs.Order.{interval_of}
use Rattle.peano_curve.specs.Run.{Follows}
use Rattle.peano_curve.specs.Passing.{AreBeside, NextRound}
use Rattle.handed_down.specs.declared.surroundings.Surroundings.{Surroundings}
use Rattle.handed_down.specs.Ages.{faces_of}

-- the face of a cell on an axis, at corner `n`
abbrev pub IsAcross : CellKey → ℕ → ℕ → CellKey → Type 0
IsAcross c n i q = neighbour_of c (face_on i (bit_of n i == 1)) ≡ Some q

-- of all cells round a corner, the neighbour across the corner's face on an axis comes next
pub record NextAcross (dir : Direction) (dim : Dim) (c : CellKey) (n i : ℕ) : Type 0 where
  pub next : CellKey
  pub in_use : i < axes dim
  pub across : IsAcross c n i next
  pub round : NextRound dir dim (corner_of c n) c next

-- in the run of a corner in a range, the neighbour across the corner's face on an axis comes right after the cell
pub record FollowsAcross (dir : Direction) (dim : Dim) (r : Range) (depth : ℕ) (c : CellKey)
    (n i : ℕ) : Type 0 where
  pub next : CellKey
  pub in_use : i < axes dim
  pub across : IsAcross c n i next
  pub follows : Follows dir dim (corner_of c n) r depth c next

-- and one comes right before it
pub record PrecedesAcross (dir : Direction) (dim : Dim) (r : Range) (depth : ℕ) (c : CellKey)
    (n i : ℕ) : Type 0 where
  pub previous : CellKey
  pub in_use : i < axes dim
  pub across : IsAcross c n i previous
  pub follows : Follows dir dim (corner_of c n) r depth previous c

-- a range has all of another one
pub record HasAll (r s : Range) : Type 0 where
  pub low : r.lo ≤ s.lo
  pub high : s.hi ≤ r.hi

-- a range has the whole interval of a cell, and of each cell of its level that touches it
abbrev pub HasAllRound : Dim → ℕ → Range → CellKey → Type 0
HasAllRound dim depth r c = (q : CellKey) → IsCell dim q → AreBeside c q
    → HasAll r (interval_of dim q depth)

-- what a cell knows of the cells round it: how the curve crosses its faces, and where it says so, that the range has all round it
pub record Surround (dir : Direction) (dim : Dim) (r : Range) (depth : ℕ) (c : CellKey)
    (s : Surroundings) : Type 0 where
  pub faces : s.faces ≡ faces_of dir dim c
  pub whole : s.whole ≡ true → HasAllRound dim depth r c

-- place `j` of 27 beside a cell: on each axis one less, the same or one more
pub record StandsBeside (c : CellKey) (j : ℕ) (q : CellKey) : Type 0 where
  pub level : c.level ≡ q.level
  pub first : at c 0 + j % 3 ≡ at q 0 + 1
  pub second : at c 1 + j / 3 % 3 ≡ at q 1 + 1
  pub third : at c 2 + j / 9 ≡ at q 2 + 1

-- a range has the interval of the cell at a place beside a cell, where one of the domain is there
abbrev pub HasBeside : Dim → ℕ → Range → CellKey → ℕ → Type 0
HasBeside dim depth r c j = (q : CellKey) → IsCell dim q → StandsBeside c j q
    → HasAll r (interval_of dim q depth)
