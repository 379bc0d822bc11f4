-- What a tree shows of a grid and a field.
use Rattle.std.specs.Prelude.{◌≡◌, ◌≢◌, ℕ, ◌+◌, ◌*◌, ◌<◌, true}
use Rattle.peano_keys.specs.declared.cell.CellKey.{CellKey}
use Rattle.peano_keys.specs.declared.vertex.VertexKey.{VertexKey}
use Rattle.peano_keys.specs.Dim.{corners}
use Rattle.peano_keys.specs.Cell.{IsCell}
use Rattle.peano_keys.specs.Vertex.{corner_of}
use Rattle.peano_keys.specs.Grid.{Spacetree, has_cell, IsHanging}
use Rattle.peano_keys.specs.Field.{States, state_at}
use Rattle.curve_cuts.specs.Cuts.{Cuts, Held, HasVertex}
use Rattle.curve_cuts.specs.Enclave.{OwnsLeaf, IsEnclave, IsSkeleton}
use Rattle.spacetree.specs.declared.row.Row.{Row}
use Rattle.vertex_stacks.specs.Tales.{capped}
use Rattle.field_report.specs.declared.traffic.Traffic.{Traffic}
use Rattle.showing_sweep.specs.Counts.{AreSoMany}

-- the row of a leaf that a tree owns, with the leaf's state in the field
pub record IsRowOf (k : Cuts) (g : Spacetree) (f : States) (t : ℕ) (row : Row) : Type 0 where
  pub owned : OwnsLeaf k g t row.key
  pub value : row.value ≡ state_at f row.key

-- a cell of a grid that a tree holds
pub record HoldsCellOf (k : Cuts) (g : Spacetree) (t : ℕ) (c : CellKey) : Type 0 where
  pub cell : IsCell k.dim c
  pub there : has_cell g c ≡ true
  pub held : Held k t c

-- a cell that a tree holds, and a corner of it that hangs, by its number
pub record HasHanging (k : Cuts) (g : Spacetree) (t : ℕ) (x : CellKey × ℕ) : Type 0 where
  pub holds : HoldsCellOf k g t x.0
  pub corner : x.1 < corners k.dim
  pub hangs : IsHanging g (corner_of x.0 x.1)

-- a vertex that a tree has, and another tree that has it too
pub record IsHadToo (k : Cuts) (g : Spacetree) (t : ℕ) (x : VertexKey × ℕ) : Type 0 where
  pub has : HasVertex k g t x.0
  pub apart : x.1 ≢ t
  pub too : HasVertex k g x.1 x.0

-- numbers of what a tree holds of a grid and moves over it
pub record Amounts : Type 0 where
  pub cells : ℕ
  pub stored : ℕ
  pub pushes : ℕ
  pub hanging : ℕ
  pub enclave : ℕ
  pub skeleton : ℕ
  pub sent : ℕ

-- they are right: each counts its set; and of the corners of all cells that the tree holds each hangs, or its vertex is pushed on from that cell, or that cell is the vertex's last
pub record AreAmounts (k : Cuts) (g : Spacetree) (t : ℕ) (n : Amounts) : Type 0 where
  pub cells : AreSoMany (HoldsCellOf k g t) n.cells
  pub stored : AreSoMany (HasVertex k g t) n.stored
  pub hanging : AreSoMany (HasHanging k g t) n.hanging
  pub enclave : AreSoMany (IsEnclave k g t) n.enclave
  pub skeleton : AreSoMany (IsSkeleton k g t) n.skeleton
  pub sent : AreSoMany (IsHadToo k g t) n.sent
  pub pushes : n.pushes + n.hanging + n.stored ≡ n.cells * corners k.dim

-- the traffic of a tree: each number stands at the last value of a count once it is there
pub record IsTraffic (k : Cuts) (g : Spacetree) (t : ℕ) (traffic : Traffic) : Type 0 where
  pub amounts : Amounts
  pub are : AreAmounts k g t amounts
  pub told : traffic
      ≡ record {
        tree = t;
        cells = capped amounts.cells;
        stored = capped amounts.stored;
        pushes = capped amounts.pushes;
        hanging = capped amounts.hanging;
        enclave = capped amounts.enclave;
        skeleton = capped amounts.skeleton;
        sent = capped amounts.sent;
      }
