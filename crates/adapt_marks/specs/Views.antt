-- What a view has to show for the decisions on the next grid: the grid, and the marks of its leaves.
use Rattle.std.specs.Prelude.{◌≡◌, ℕ, ◌<◌, ◌≤◌, true, false, Some}
use Rattle.peano_keys.specs.declared.dim.Dim.{Dim}
use Rattle.peano_keys.specs.declared.dim.Dim.TheVariants.{Two, Three}
use Rattle.peano_keys.specs.declared.cell.CellKey.{CellKey}
use Rattle.peano_keys.specs.declared.side.Mark.{Mark}
use Rattle.peano_keys.specs.Dim.{corners}
use Rattle.peano_keys.specs.Cell.{IsCell, parent_of, centre_child}
use Rattle.peano_keys.specs.Grid.{Spacetree, is_leaf}
use Rattle.peano_records.specs.declared.slot.Slot.{Slot}
use Rattle.peano_records.specs.declared.view.Corner.{Corner}
use Rattle.peano_records.specs.declared.view.Corner.TheVariants.{Vertex, Hanging, Beyond}
use Rattle.peano_records.specs.declared.view.CellView.{CellView}
use Rattle.peano_records.specs.Slots.{VertexRecord}
use Rattle.peano_records.specs.AtRest.{SaysOfCells}
use Rattle.peano_records.specs.Tells.{corner_at}
use Rattle.hanging_nodes.specs.Views.{Shows}

-- a slot of a leaf has the leaf's mark
abbrev pub HasMark : Spacetree → (CellKey → Mark) → CellKey → Slot → Type 0
HasMark g marks q s = is_leaf g q ≡ true → s.mark ≡ marks q

-- a view shows a grid, and the marks of its leaves in the slots of its stored corners; in a plane the last four places have no corner
pub record ShowsMarks (g : Spacetree) (marks : CellKey → Mark) (view : CellView) : Type 0 where
  pub cell : IsCell g.dim view.key
  pub grid : Shows g.dim (Some g) g false view
  pub marked : (n : ℕ) (s : VertexRecord) → n < corners g.dim → corner_at view n ≡ Vertex s
      → SaysOfCells g.dim s (HasMark g marks)
  pub beyond : (n : ℕ) → corners g.dim ≤ n → n < 8 → corner_at view n ≡ Beyond

-- the dimension that a corner in the fifth place tells
abbrev pub dim_by : Corner → Dim
dim_by (Vertex s) = Three
dim_by (Hanging k) = Three
dim_by Beyond = Two

-- the dimension that a view shows
abbrev pub dim_shown : CellView → Dim
dim_shown view = dim_by (corner_at view 4)

-- a cell is the centre child of its parent
pub record IsCentre (dim : Dim) (c : CellKey) : Type 0 where
  pub below : 0 < c.level
  pub centre : c ≡ centre_child dim (parent_of c)
