-- A stored vertex of the domain is a corner of a cell of the grid: of the cell that ends there, or begins at the domain's low side.
use Rattle.std.proofs.Common.{◌-◌, ◌≤◌, refl, arith}
use Rattle.peano_keys.specs.declared.dim.Dim.{Dim}
use Rattle.peano_keys.specs.declared.dim.Dim.TheVariants.{Two, Three}
use Rattle.peano_keys.specs.declared.cell.CellKey.{CellKey}
use Rattle.peano_keys.specs.declared.vertex.VertexKey.{VertexKey}
use Rattle.peano_keys.specs.Cell.{IsCell, triple}
use Rattle.peano_keys.specs.Vertex.{IsVertex, Touches, plane}
use Rattle.peano_keys.proofs.Powers.{pow3_positive}
use Rattle.spacetree.specs.Laws.{StoredIsCorner}

abbrev before : VertexKey → CellKey
before v = record { level = v.level; x = triple (plane v 0 - 1) (plane v 1 - 1) (plane v 2 - 1) }

before_cell : (dim : Dim) (v : VertexKey) → IsVertex dim v → IsCell dim (before v)
before_cell Two v h =
    let some = pow3_positive v.level in
    let third : plane v 2 ≤ 0 = h.third in
    record { shape = refl; level = h.level; first = omega (arith, h.first, some); second = omega (arith, h.second, some); third = omega arith }
before_cell Three v h =
    let some = pow3_positive v.level in
    record { shape = refl; level = h.level; first = omega (arith, h.first, some); second = omega (arith, h.second, some); third = omega (arith, h.third, some) }

touches_before : (v : VertexKey) → Touches (before v) v
touches_before v = record { level = refl; first_low = omega arith; first_high = omega arith; second_low = omega arith; second_high = omega arith; third_low = omega arith; third_high = omega arith }

pub stored_is_corner : StoredIsCorner
stored_is_corner t v vertex stored =
    let cell = before_cell t.dim v vertex in
    let touches = touches_before v in
    (before v, cell, touches, stored (before v) cell touches)
