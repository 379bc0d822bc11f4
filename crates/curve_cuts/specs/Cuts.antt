-- Trees as ranges of positions along the curve: which cells a tree holds, which it owns, and which vertices it shares.
use Rattle.std.specs.Prelude.{◌≡◌, ◌≢◌, ℕ, ◌+◌, ◌^◌, ◌<◌, ◌≤◌}
use Rattle.peano_keys.specs.declared.dim.Dim.{Dim}
use Rattle.peano_keys.specs.declared.cell.CellKey.{CellKey}
use Rattle.peano_keys.specs.declared.vertex.VertexKey.{VertexKey}
use Rattle.peano_keys.specs.Dim.{children}
use Rattle.peano_keys.specs.Cell.{IsCell}
use Rattle.peano_keys.specs.Vertex.{IsVertex, Touches}
use Rattle.peano_keys.specs.Grid.{Spacetree, IsGrid, IsStored}
use Rattle.peano_curve.specs.declared.range.Range.{Range}
use Rattle.peano_curve.specs.Order.{centre_of}
use Rattle.peano_curve.specs.Run.{Holds, HoldsCell}

-- so many trees, each with the position where its range begins; the last range ends where one more would begin
pub record Cuts : Type 0 where
  pub dim : Dim
  pub depth : ℕ
  pub trees : ℕ
  pub start : ℕ → ℕ

-- the ranges cover all positions of the depth, one after another; a range may be empty
pub record AreCuts (k : Cuts) : Type 0 where
  pub first : k.start 0 ≡ 0
  pub rising : (t : ℕ) → t < k.trees → k.start t ≤ k.start (t + 1)
  pub end : k.start k.trees ≡ children k.dim ^ k.depth

-- the range of a tree
abbrev pub range_of : Cuts → ℕ → Range
range_of k t = record { lo = k.start t; hi = k.start (t + 1) }

-- a tree has a position
pub record HasPosition (k : Cuts) (t p : ℕ) : Type 0 where
  pub tree : t < k.trees
  pub holds : Holds (range_of k t) p

-- a tree holds a cell whose interval meets its range
abbrev pub Held : Cuts → ℕ → CellKey → Type 0
Held k t c = HoldsCell k.dim k.depth (range_of k t) c

-- a tree owns a cell where its range has the cell's centre
pub record Owns (k : Cuts) (t : ℕ) (c : CellKey) : Type 0 where
  pub tree : t < k.trees
  pub centre : Holds (range_of k t) (centre_of k.dim c k.depth)

-- a vertex is a corner of a position that a tree holds
pub record HasCorner (k : Cuts) (t : ℕ) (v : VertexKey) : Type 0 where
  pub tree : t < k.trees
  pub cell : CellKey
  pub inside : IsCell k.dim cell
  pub touches : Touches cell v
  pub held : Held k t cell

-- a vertex of a tree is shared where another tree holds one of its adjacent positions
pub record IsShared (k : Cuts) (t : ℕ) (v : VertexKey) : Type 0 where
  pub other : ℕ
  pub apart : other ≢ t
  pub corner : HasCorner k other v

-- a tree has a vertex that is stored in a grid, where it holds a cell round it
pub record HasVertex (k : Cuts) (g : Spacetree) (t : ℕ) (v : VertexKey) : Type 0 where
  pub vertex : IsVertex k.dim v
  pub stored : IsStored g v
  pub corner : HasCorner k t v

-- a grid for these trees
pub record IsCutGrid (k : Cuts) (g : Spacetree) : Type 0 where
  pub cuts : AreCuts k
  pub deepest : k.depth ≤ 12
  pub dim : g.dim ≡ k.dim
  pub grid : IsGrid k.depth g
