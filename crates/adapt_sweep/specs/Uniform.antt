-- Fields from which each cell of a grid has a value.
use Rattle.std.specs.Prelude.{◌≡◌, Some}
use Rattle.std.specs.FinMap as map
use Rattle.peano_keys.specs.declared.cell.CellKey.{CellKey}
use Rattle.peano_keys.specs.declared.state.State.{State}
use Rattle.peano_keys.specs.State.{count_of}
use Rattle.peano_keys.specs.Grid.{Spacetree, IsGrid}
use Rattle.peano_keys.specs.Field.{States}
use Rattle.spacetree.specs.Fields.{HasLeaf}

-- a grid and a field on it, whose states all have as many values
pub record IsUniformField (t : Spacetree) (f : States) : Type 0 where
  pub grid : IsGrid 12 t
  pub leaves : (c : CellKey) → HasLeaf t f c
  pub counts : (c d : CellKey) (s r : State) → map.get f c ≡ Some s → map.get f d ≡ Some r
      → count_of s ≡ count_of r
