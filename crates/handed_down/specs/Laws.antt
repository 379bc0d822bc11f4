-- Laws of what is handed down.
use Rattle.std.specs.Prelude.{◌≡◌, ◌↔◌, ℕ, ◌<◌, ◌≤◌, Bool, Some, if◌then◌else◌, slice_index_or}
use Rattle.peano_keys.specs.declared.cell.CellKey.{CellKey}
use Rattle.peano_keys.specs.declared.dim.Dim.{Dim}
use Rattle.peano_keys.specs.Dim.{axes}
use Rattle.peano_keys.specs.Cell.{IsCell, root, parent_of, neighbour_of}
use Rattle.peano_keys.specs.Field.{face_on}
use Rattle.peano_curve.specs.declared.order.Direction.{Direction}
use Rattle.peano_curve.specs.declared.range.Range.{Range}
use Rattle.peano_curve.specs.Order.{interval_of}
use Rattle.peano_curve.specs.Run.{CellLater}
use Rattle.handed_down.specs.declared.faces.Crossing.{Crossing}
use Rattle.handed_down.specs.declared.faces.Crossing.TheVariants.{Wall}
use Rattle.handed_down.specs.declared.faces.Faces.{Faces}
use Rattle.handed_down.specs.Ages.{faces_of, age_in, age_out}
use Rattle.handed_down.specs.Across.{HasAll, HasAllRound}

-- the low or the high face on an axis
abbrev pub face_on_side : Faces → ℕ → Bool → Crossing
face_on_side a i up = if up then slice_index_or a.high i Wall else slice_index_or a.low i Wall

-- the curve goes out by a face exactly where the neighbour across it comes later, and in exactly where it comes earlier
abbrev pub FacesTellOrder : Type 0
FacesTellOrder = (dir : Direction) (dim : Dim) (c n : CellKey) (i : ℕ) (up : Bool) → IsCell dim c
    → i < axes dim → neighbour_of c (face_on i up) ≡ Some n
    → ((0 < age_out (face_on_side (faces_of dir dim c) i up)) ↔ CellLater dir dim c n)
    × ((0 < age_in (face_on_side (faces_of dir dim c) i up)) ↔ CellLater dir dim n c)

-- where a range has all round a cell, it has all round its children
abbrev pub WholeIsHandedDown : Type 0
WholeIsHandedDown = (dim : Dim) (depth : ℕ) (r : Range) (c : CellKey) → IsCell dim c → 1 ≤ c.level
    → c.level ≤ depth → HasAllRound dim depth r (parent_of c) → HasAllRound dim depth r c

-- a range that has the whole curve has all round the root
abbrev pub WholeAtRoot : Type 0
WholeAtRoot = (dim : Dim) (depth : ℕ) (r : Range) → HasAll r (interval_of dim root depth)
    → HasAllRound dim depth r root
