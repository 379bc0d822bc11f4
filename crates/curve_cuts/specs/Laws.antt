-- Laws of trees.
use Rattle.std.specs.Prelude.{◌≡◌, ◌≢◌, ◌↔◌, ℕ, ◌^◌, ◌<◌, ◌≤◌, true}
use Rattle.peano_keys.specs.declared.cell.CellKey.{CellKey}
use Rattle.peano_keys.specs.declared.vertex.VertexKey.{VertexKey}
use Rattle.peano_keys.specs.Dim.{corners, children}
use Rattle.peano_keys.specs.Cell.{IsCell, parent_of, centre_child}
use Rattle.peano_keys.specs.Vertex.{corner_of}
use Rattle.peano_keys.specs.Grid.{Spacetree, IsGrid, is_leaf}
use Rattle.peano_curve.specs.Order.{interval_of}
use Rattle.peano_curve.specs.Run.{Holds}
use Rattle.curve_cuts.specs.Cuts.{Cuts, AreCuts, range_of, HasPosition, Held, Owns, IsShared, HasVertex, IsCutGrid}
use Rattle.curve_cuts.specs.Enclave.{OwnsLeaf, IsEnclave}

-- each position has a tree
abbrev pub PositionHasTree : Type 0
PositionHasTree = (k : Cuts) (p : ℕ) → AreCuts k → p < children k.dim ^ k.depth
    → (t : ℕ) × HasPosition k t p

-- and one alone
abbrev pub PositionHasOneTree : Type 0
PositionHasOneTree = (k : Cuts) (t s p : ℕ) → AreCuts k → HasPosition k t p → HasPosition k s p
    → t ≡ s

-- ranges stand in the order of their trees
abbrev pub RangesInOrder : Type 0
RangesInOrder = (k : Cuts) (t s : ℕ) → AreCuts k → t < s → s < k.trees
    → (range_of k t).hi ≤ (range_of k s).lo

-- each cell of a level down to the depth has an owner
abbrev pub OwnerExists : Type 0
OwnerExists = (k : Cuts) (c : CellKey) → AreCuts k → IsCell k.dim c → c.level ≤ k.depth
    → (t : ℕ) × Owns k t c

-- and one alone
abbrev pub OwnerIsOne : Type 0
OwnerIsOne = (k : Cuts) (t s : ℕ) (c : CellKey) → AreCuts k → Owns k t c → Owns k s c → t ≡ s

-- which holds it
abbrev pub OwnerHolds : Type 0
OwnerHolds = (k : Cuts) (t : ℕ) (c : CellKey) → Owns k t c → Held k t c

-- a cell and its centre child have one owner
abbrev pub CentreKeepsOwner : Type 0
CentreKeepsOwner = (k : Cuts) (t : ℕ) (c : CellKey) → c.level < k.depth
    → Owns k t c ↔ Owns k t (centre_child k.dim c)

-- what a tree holds it holds from the root on
abbrev pub HeldFromAbove : Type 0
HeldFromAbove = (k : Cuts) (t : ℕ) (c : CellKey) → IsCell k.dim c → 0 < c.level → c.level ≤ k.depth
    → Held k t c → Held k t (parent_of c)

-- another tree has a vertex too
abbrev pub HasToo : Cuts → Spacetree → ℕ → VertexKey → Type 0
HasToo k g t v = (s : ℕ) × (s ≢ t) × HasVertex k g s v

-- a stored vertex that a tree has is shared exactly where another tree has it too
abbrev pub SharedIsHadToo : Type 0
SharedIsHadToo = (k : Cuts) (g : Spacetree) (t : ℕ) (v : VertexKey) → HasVertex k g t v
    → IsShared k t v ↔ HasToo k g t v

-- two leaves of a grid that share a position are one
abbrev pub LeavesShareNone : Type 0
LeavesShareNone = (depth : ℕ) (t : Spacetree) (a b : CellKey) (p : ℕ) → IsGrid depth t
    → IsCell t.dim a → IsCell t.dim b → is_leaf t a ≡ true → is_leaf t b ≡ true
    → Holds (interval_of t.dim a depth) p → Holds (interval_of t.dim b depth) p → a ≡ b

-- each leaf of a grid is an own leaf of a tree
abbrev pub LeafIsOwned : Type 0
LeafIsOwned = (k : Cuts) (g : Spacetree) (c : CellKey) → IsCutGrid k g → IsCell k.dim c
    → is_leaf g c ≡ true → (t : ℕ) × OwnsLeaf k g t c

-- no other tree has a vertex of an enclave
abbrev pub EnclaveIsAlone : Type 0
EnclaveIsAlone = (k : Cuts) (g : Spacetree) (t s n : ℕ) (c : CellKey) → IsEnclave k g t c
    → n < corners k.dim → HasVertex k g s (corner_of c n) → s ≡ t
