-- Keys of a plane are keys of space.
use Rattle.std.proofs.Common.{arith}
use Rattle.peano_keys.specs.declared.dim.Dim.{Dim}
use Rattle.peano_keys.specs.declared.dim.Dim.TheVariants.{Two, Three}
use Rattle.peano_keys.specs.declared.cell.CellKey.{CellKey}
use Rattle.peano_keys.specs.Cell.{IsCell, IsCellKey}
use Rattle.peano_keys.proofs.Powers.{pow3_positive}

pub cell_is_key : (dim : Dim) (c : CellKey) → IsCell dim c → IsCellKey c
cell_is_key Two c h = record { shape = h.shape; level = h.level; first = h.first; second = h.second; third = omega (arith, h.third, pow3_positive c.level) }
cell_is_key Three c h = h
