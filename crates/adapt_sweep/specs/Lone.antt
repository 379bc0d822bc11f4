-- A grid to begin with.
use Rattle.std.specs.FinSet as set
use Rattle.peano_keys.specs.declared.dim.Dim.TheVariants.{Two}
use Rattle.peano_keys.specs.Grid.{Spacetree}

-- the grid in which the root alone is a cell
abbrev pub lone : Spacetree
lone = record { dim = Two; refined = set.empty }
