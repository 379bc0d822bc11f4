-- The vertices of a cell's children, numbered, and which of them are stored.
use Rattle.std.specs.Prelude.{◌≡◌, ◌↔◌, ℕ, ◌+◌, ◌*◌, ◌/◌, ◌%◌, ◌<◌, Bool, true, false, List, slice_index_or, Option, if◌then◌else◌}
use Rattle.peano_keys.specs.declared.cell.CellKey.{CellKey}
use Rattle.peano_keys.specs.declared.vertex.VertexKey.{VertexKey}
use Rattle.peano_keys.specs.declared.dim.Dim.{Dim}
use Rattle.peano_keys.specs.declared.dim.Dim.TheVariants.{Two, Three}
use Rattle.peano_keys.specs.Cell.{at, triple}
use Rattle.peano_keys.specs.Grid.{Spacetree}
use Rattle.hanging_nodes.specs.Views.{IsStoredIn}
use Rattle.handed_down.specs.declared.stored.ChildVertices.{ChildVertices}

-- how many vertices the children of a cell have
abbrev pub count_below : Dim → ℕ
count_below Two = 16
count_below Three = 64

-- vertex number `j` of a cell's children: axis 0 is fastest
abbrev pub vertex_below : CellKey → ℕ → VertexKey
vertex_below c j =
    record {
      level = c.level + 1;
      v = triple (3 * at c 0 + j % 4) (3 * at c 1 + j / 4 % 4) (3 * at c 2 + j / 16);
    }

-- of the first `i` vertices of a cell's children it is told which are stored, in the old grid, or with `after` in the new one
abbrev pub TellsBelow : Bool → Option Spacetree → Spacetree → CellKey → List Bool → ℕ → Type 0
TellsBelow after old new c told i = (j : ℕ) → j < i
    → (slice_index_or told j false ≡ true) ↔ IsStoredIn after old new (vertex_below c j)

-- what is told of one of the two grids
abbrev pub told_of : ChildVertices → Bool → List Bool
told_of told after = if after then told.new_grid else told.old_grid

-- of all vertices of a cell's children it is told which are stored in the old grid, or with `after` in the new one
abbrev pub TellsAll : Dim → Bool → Option Spacetree → Spacetree → CellKey → ChildVertices → Type 0
TellsAll dim after old new c told =
    TellsBelow after old new c (told_of told after) (count_below dim)
