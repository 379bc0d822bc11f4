-- The records of a tree, as contracts see them.
use Rattle.std.specs.Prelude.{ℕ, ◌-◌, ◌*◌, ◌^◌, ◌<◌, ◌≤◌, Bool, List, length}
use Rattle.peano_records.specs.declared.view.CellRecord.{CellRecord}
use Rattle.peano_curve.specs.declared.order.Direction.{Direction}
use Rattle.peano_curve.specs.declared.range.Range.{Range}
use Rattle.peano_keys.specs.declared.dim.Dim.{Dim}
use Rattle.vertex_stacks.specs.Lists.{SweepLists, lists_of, pages_of}

-- the cell records to be read, the next one first, and those that were written, oldest first; the vertices; what the store is of; whether it is live;
-- how many cell records each of its two streams has room for; how many vertices and owned leaves it has at rest, and how many owned leaves were written so far
pub record TreeLists : Type 0 where
  pub cells : List CellRecord
  pub written : List CellRecord
  pub lanes : SweepLists
  pub depth : ℕ
  pub range : Range
  pub tree : ℕ
  pub dir : Direction
  pub live : Bool
  pub cell_room : ℕ
  pub stored : ℕ
  pub leaves : ℕ
  pub counted : ℕ

-- how many cell records can be written with no want of memory
abbrev pub spare_cells : TreeLists → ℕ
spare_cells s = s.cell_room - length s.written

-- how many pages the lists of a sweep have
unfoldable pub page_count : SweepLists → ℕ
page_count l = pages_of l

-- how many vertices have room in so many pages, however they lie
abbrev pub room_in : Dim → ℕ → ℕ
room_in dim pages = 64 * (pages - lists_of dim)

-- a store has room for all that a sweep moves that changes no grid
pub record IsRoomy (s : TreeLists) : Type 0 where
  pub exact : s.stored < 2 ^ 64 - 1
  pub vertices : s.stored ≤ room_in s.lanes.dim (page_count s.lanes)
  pub records : length s.cells ≤ s.cell_room
