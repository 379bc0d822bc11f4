-- Cells as boxes that splits into three along one axis at a time make: as many splits as there are axes make a level.
use Rattle.std.specs.Prelude.{◌≡◌, ℕ, ◌*◌}
use Rattle.peano_keys.specs.declared.cell.CellKey.{CellKey}
use Rattle.peano_keys.specs.declared.dim.Dim.{Dim}
use Rattle.peano_keys.specs.Dim.{axes}
use Rattle.peano_keys.specs.Cell.{IsCell, at}
use Rattle.stack_law.specs.Boxes.{Box, forward}
use Rattle.stack_law.specs.Domain.{axis_in}
use Rattle.stack_law.specs.Order.{rank}
use Rattle.peano_curve.specs.Order.{rank_of}

-- the box of a cell, by its coordinates
abbrev pub box_of : CellKey → Box
box_of c = record { x0 = at c 0; x1 = at c 1; x2 = at c 2 }

-- the rank of a cell is the place of its box among the boxes of its shape, however many levels lie below
abbrev pub RanksArePlaces : Type 0
RanksArePlaces = (dim : Dim) (c : CellKey) (below : ℕ) → IsCell dim c
    → rank_of dim c
    ≡ rank forward (axis_in (axes dim)) (axes dim * c.level) (axes dim * below) (box_of c)
