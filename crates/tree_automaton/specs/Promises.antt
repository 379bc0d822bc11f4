-- What visitors promise, by what they serve.
use Rattle.std.specs.Prelude.{◌≡◌, ◌⊎◌, ◌↔◌, ℕ, ◌<◌, ◌≤◌, Bool, true, Option, Some, None, length}
use Rattle.peano_keys.specs.declared.cell.CellKey.{CellKey}
use Rattle.peano_keys.specs.declared.vertex.VertexKey.{VertexKey}
use Rattle.peano_keys.specs.declared.dim.Dim.{Dim}
use Rattle.peano_keys.specs.Dim.{corners}
use Rattle.peano_keys.specs.Cell.{IsCell}
use Rattle.peano_keys.specs.Vertex.{adjacent_of, corner_of}
use Rattle.peano_keys.specs.Grid.{Spacetree, is_refined}
use Rattle.peano_records.specs.declared.slot.Slot.{Slot}
use Rattle.peano_records.specs.declared.slot.Status.TheVariants.{Outside, Leaf, Refined}
use Rattle.peano_records.specs.declared.slot.Intent.TheVariants.{Split, Merge}
use Rattle.peano_records.specs.declared.view.CellView.{CellView}
use Rattle.peano_records.specs.declared.view.Corner.{Corner}
use Rattle.peano_records.specs.declared.view.Corner.TheVariants.{Vertex, Hanging, Beyond}
use Rattle.peano_records.specs.Slots.{VertexRecord, slot_at}
use Rattle.peano_records.specs.AtRest.{status_of}
use Rattle.peano_records.specs.Tells.{corner_at}
use Rattle.hanging_nodes.specs.Views.{AreOldAndNew, Shows}
use Rattle.tree_automaton.specs.declared.kinds.Serves.{Serves}
use Rattle.tree_automaton.specs.declared.kinds.Serves.TheVariants.{Raising, Adapting, Plain}
use Rattle.tree_automaton.specs.Sweep.{flag_in}

-- what no call changes of a visitor: what it serves, the dimension, the new grid, whether it may want memory, and its loan, 0 where it has none
pub record Meaning : Type 0 where
  pub serves : Serves
  pub dim : Dim
  pub new_grid : Spacetree
  pub may_want : Bool
  pub loan : ℕ

-- a corner in use has a key
abbrev pub HasKey : VertexKey → Corner → Type 0
HasKey w (Vertex s) = s.key ≡ w
HasKey w (Hanging k) = k ≡ w
HasKey w Beyond = ⊥

-- a view has a cell of a dimension, and that cell's corners with their keys
pub record IsViewIn (dim : Dim) (v : CellView) : Type 0 where
  pub cell : IsCell dim v.key
  pub eight : length v.corners ≡ 8
  pub keys : (n : ℕ) → n < corners dim → HasKey (corner_of v.key n) (corner_at v n)
  pub beyond : (n : ℕ) → corners dim ≤ n → corner_at v n ≡ Beyond

-- a corner stays what it is, with its key
abbrev pub SameCorner : Corner → Corner → Type 0
SameCorner (Vertex s) (Vertex t) = (t.key ≡ s.key) × (length t.slots ≡ length s.slots)
SameCorner (Hanging k) (Hanging l) = l ≡ k
SameCorner Beyond Beyond = Unit {0}
SameCorner _ _ = ⊥

-- what every visitor keeps of a view
pub record Keeps (v w : CellView) : Type 0 where
  pub key : w.key ≡ v.key
  pub was : w.was ≡ v.was
  pub will : w.will ≡ v.will
  pub sides : w.sides ≡ v.sides
  pub carried : w.carried ≡ v.carried
  pub shape : length w.corners ≡ length v.corners
  pub corners_stay : (n : ℕ) → SameCorner (corner_at v n) (corner_at w n)

-- a relation of each slot before and after, with its vertex and its number
abbrev pub EachSlot : (VertexKey → ℕ → Slot → Slot → Type 0) → CellView → CellView → Type 0
EachSlot R v w = (n k : ℕ) (s t : VertexRecord) → corner_at v n ≡ Vertex s
    → corner_at w n ≡ Vertex t → k < 8 → R s.key k (slot_at s k) (slot_at t k)

-- the status of a position in a grid
abbrev pub StatusIn : Spacetree → Option CellKey → Slot → Type 0
StatusIn t None s = s.status ≡ Outside
StatusIn t (Some q) s = s.status ≡ status_of (is_refined t q)

-- a view knows the old grid, from which the new one is made, and shows both
pub record KnowsStep (depth : ℕ) (old new : Spacetree) (v : CellView) : Type 0 where
  pub grids : AreOldAndNew depth new.dim old new
  pub was : v.was ≡ flag_in (Some old) v.key
  pub shows : Shows new.dim (Some old) new true v

-- raising: an intent stays, and a position gets the status of the grid
abbrev pub RaisesSlot : Spacetree → VertexKey → ℕ → Slot → Slot → Type 0
RaisesSlot grid key k s t = (t.intent ≡ s.intent)
    × (k < corners grid.dim → StatusIn grid (adjacent_of grid.dim key k) t)

-- adapting: an intent stays, and so does a slot that is not of this cell
abbrev pub AdaptsSlot : Spacetree → CellKey → VertexKey → ℕ → Slot → Slot → Type 0
AdaptsSlot grid c key k s t = (t.intent ≡ s.intent)
    × (adjacent_of grid.dim key k ≡ Some c ⊎ ((t.status ≡ s.status) × (t.value ≡ s.value)))

-- a slot of this cell keeps its status, or says whether the new grid refines the cell
abbrev pub TellsNewStatus : Spacetree → CellKey → VertexKey → ℕ → Slot → Slot → Type 0
TellsNewStatus grid c key k s t = adjacent_of grid.dim key k ≡ Some c
    → (t.status ≡ s.status) ⊎ ((t.status ≡ Refined) ↔ (is_refined grid c ≡ true))

-- plain: status and value stay; only a leaf is newly intended to split, and only a refined cell to merge
abbrev pub MarksSlot : VertexKey → ℕ → Slot → Slot → Type 0
MarksSlot key k s t = (t.status ≡ s.status) × (t.value ≡ s.value)
    × (t.intent ≡ Split → (s.intent ≡ Split) ⊎ (s.status ≡ Leaf))
    × (t.intent ≡ Merge → (s.intent ≡ Merge) ⊎ (s.status ≡ Refined))

-- what a visitor may do to the slots of a view when a cell is entered
abbrev pub MayEnter : Serves → Spacetree → CellView → CellView → Type 0
MayEnter Raising grid v w = EachSlot (RaisesSlot grid) v w
MayEnter Adapting grid v w = EachSlot (AdaptsSlot grid v.key) v w
    × ((depth : ℕ) (old : Spacetree) → KnowsStep depth old grid v
    → EachSlot (TellsNewStatus grid v.key) v w)
MayEnter Plain grid v w = EachSlot MarksSlot v w

-- what a visitor may change in the slots of a view at the leave of a cell
abbrev pub MayLeave : Serves → Spacetree → CellView → CellView → Type 0
MayLeave Raising grid v w =
    EachSlot (λ key k s t. (t.intent ≡ s.intent) × (t.status ≡ s.status)) v w
MayLeave Adapting grid v w = MayEnter Adapting grid v w
MayLeave Plain grid v w = MayEnter Plain grid v w

-- what a visitor says of the new grid
abbrev pub Foresees : Serves → Spacetree → CellView → Bool → Type 0
Foresees Raising grid v b = b ≡ is_refined grid v.key
Foresees Adapting grid v b = (depth : ℕ) (old : Spacetree) → KnowsStep depth old grid v
    → b ≡ is_refined grid v.key
Foresees Plain grid v b = Unit {0}
