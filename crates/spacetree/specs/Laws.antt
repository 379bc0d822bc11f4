-- Laws of grids and fields: that there are opening ones and next ones, how many cells they have, and what sides and stored vertices are.
use Rattle.std.specs.Prelude.{◌≡◌, ◌⊎◌, ℕ, false, List, length, Some, IsSome}
use Rattle.std.specs.FinMap as map
use Rattle.peano_keys.specs.declared.cell.CellKey.{CellKey}
use Rattle.peano_keys.specs.declared.side.Mark.{Mark}
use Rattle.peano_keys.specs.declared.side.Side.TheVariants.{Coarse}
use Rattle.peano_keys.specs.declared.vertex.VertexKey.{VertexKey}
use Rattle.peano_keys.specs.Cell.{IsCell}
use Rattle.peano_keys.specs.Grid.{Spacetree, IsGrid, IsGridCorner, IsStored, has_cell}
use Rattle.peano_keys.specs.Field.{States, side_at, state_at, value_of}
use Rattle.peano_keys.specs.Next.{IsNextGrid, Merges}
use Rattle.peano_keys.specs.Vertex.{IsVertex}
use Rattle.solver_api.specs.Step.{UpdateRule, MarkRule, IsLeafOf, IsStep, Overflows, marks_of, new_state}
use Rattle.spacetree.specs.declared.shape.Shape.{Shape}
use Rattle.spacetree.specs.declared.shape.Fill.{Fill}
use Rattle.spacetree.specs.Build.{IsShape, IsUnder}
use Rattle.spacetree.specs.Counts.{CountsCells, cells_of, leaves_of}
use Rattle.spacetree.specs.Fields.{IsFieldOn, rows_of}
use Rattle.spacetree.specs.Leaves.{IsCellOf, ListsLeaves}
use Rattle.spacetree.specs.Marked.{HasNewStates}
use Rattle.spacetree.specs.Opening.{Opens, OpensField}
use Rattle.spacetree.specs.Evaluation.{IsServedStep, Crowds}

-- each shape opens a grid
abbrev pub EachShapeOpens : Type 0
EachShapeOpens = (shape : Shape) → (t : Spacetree) × Opens shape t

-- and that is a grid of the shape's depth
abbrev pub OpeningIsGrid : Type 0
OpeningIsGrid = (shape : Shape) (t : Spacetree) → IsShape shape → Opens shape t
    → IsGrid shape.depth t

-- fills open a field on each grid
abbrev pub FillsOpen : Type 0
FillsOpen = (t : Spacetree) (fills : List Fill) (parts : ℕ)
    → (f : States) × OpensField t fills parts f

-- marks always make a next grid
abbrev pub NextGridExists : Type 0
NextGridExists = (t : Spacetree) (marks : CellKey → Mark) → IsGrid 12 t
    → (new : Spacetree) × IsNextGrid t marks new

-- each leaf has a new state
abbrev pub HasUpdates : UpdateRule → Spacetree → States → Type 0
HasUpdates updated t f = (c : CellKey) → IsLeafOf t c → IsSome (new_state updated t f c)

-- then there is a step
abbrev pub StepExists : Type 0
StepExists = (updated : UpdateRule) (marked : MarkRule) (t : Spacetree) (f : States) → IsGrid 12 t
    → HasUpdates updated t f
    → (new : Spacetree) × (after : States) × IsStep updated marked t f new after

-- a step is served, to some grid and field
abbrev pub IsServed : UpdateRule → MarkRule → Spacetree → States → Type 0
IsServed updated marked t f = (new : Spacetree) × (after : States)
    × IsServedStep updated marked t f new after

-- or it is refused: at a leaf that overflows, or by so many cells
abbrev pub IsOver : UpdateRule → Spacetree → States → Type 0
IsOver updated t f = (c : CellKey) × Overflows updated t f c

-- the next grid would have so many cells, too many
abbrev pub IsOverfull : UpdateRule → MarkRule → Spacetree → States → Type 0
IsOverfull updated marked t f = (cells : ℕ) × Crowds updated marked t f cells

-- from each grid and field one of these three comes
abbrev pub EachStepLeadsOn : Type 0
EachStepLeadsOn = (updated : UpdateRule) (marked : MarkRule) (t : Spacetree) (f : States)
    → IsGrid 12 t → IsServed updated marked t f ⊎ IsOver updated t f ⊎ IsOverfull updated marked t f

-- the cells of a grid can be counted, and are as many as the formula says
abbrev pub CellsAreCounted : Type 0
CellsAreCounted = (t : Spacetree) → IsGrid 12 t → CountsCells (IsCellOf t) (cells_of t)

-- however they are counted
abbrev pub OneCountOfCells : Type 0
OneCountOfCells = (t : Spacetree) (n : ℕ) → IsGrid 12 t → CountsCells (IsCellOf t) n
    → n ≡ cells_of t

-- the leaves of a grid, however they are counted, are its cells without the refined ones
abbrev pub LeavesAreCounted : Type 0
LeavesAreCounted = (t : Spacetree) (n : ℕ) → IsGrid 12 t → CountsCells (IsLeafOf t) n
    → n ≡ leaves_of t

-- so is the length of a list of them in key order
abbrev pub LeavesAreListed : Type 0
LeavesAreListed = (t : Spacetree) (cells : List CellKey) → IsGrid 12 t → ListsLeaves t cells
    → length cells ≡ leaves_of t

-- a grid is told by its leaves
abbrev pub OneGridOfLeaves : Type 0
OneGridOfLeaves = (t u : Spacetree) (cells : List CellKey) → t.dim ≡ u.dim → IsGrid 12 t
    → IsGrid 12 u → ListsLeaves t cells → ListsLeaves u cells → t ≡ u

-- a field on a grid has as many rows as the grid has leaves
abbrev pub RowsAreLeaves : Type 0
RowsAreLeaves = (parts : ℕ) (t : Spacetree) (f : States) → IsGrid 12 t → IsFieldOn parts t f
    → length (rows_of f) ≡ leaves_of t

-- a stored vertex of the domain is a corner of a cell of the grid
abbrev pub StoredIsCorner : Type 0
StoredIsCorner = (t : Spacetree) (v : VertexKey) → IsVertex t.dim v → IsStored t v
    → IsGridCorner t v

-- a leaf in which a place lies: an ancestor of the place, or the place itself
pub record IsLeafAbove (t : Spacetree) (q c : CellKey) : Type 0 where
  pub leaf : IsLeafOf t c
  pub above : IsUnder c q

-- the one such leaf
pub record IsTheLeafAbove (t : Spacetree) (q c : CellKey) : Type 0 where
  pub is : IsLeafAbove t q c
  pub alone : (d : CellKey) → IsLeafAbove t q d → d ≡ c

-- a place of the domain at which a grid has no cell lies in one leaf, and the coarse side is the state of that leaf
abbrev pub CoarseSideIsOfLeaf : Type 0
CoarseSideIsOfLeaf = (t : Spacetree) (f : States) (q : CellKey) → IsGrid 12 t → IsCell t.dim q
    → has_cell t q ≡ false
    → (c : CellKey) × IsTheLeafAbove t q c × (side_at t f (Some q) ≡ Coarse (state_at f c))

-- each cell that merges has in a field its value by some states: the value of any refined cell, which sides tell too
abbrev pub MergedHave : Spacetree → (CellKey → Mark) → States → States → Type 0
MergedHave t marks states after = (c : CellKey) → Merges t marks c
    → map.get after c ≡ Some (value_of t states c)

-- so it is in the next field, by the field of the new states
abbrev pub MergeTakesValue : Type 0
MergeTakesValue = (updated : UpdateRule) (marked : MarkRule) (t : Spacetree) (f : States)
    (new : Spacetree) (after states : States)
    → IsGrid 12 t → HasNewStates updated t f states → IsStep updated marked t f new after
    → MergedHave t (marks_of marked t f) states after
