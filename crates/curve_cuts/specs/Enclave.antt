-- Enclave and skeleton leaves of a tree: those whose corners it sees alone and whole, and all others that it owns.
use Rattle.std.specs.Prelude.{◌≡◌, ℕ, ◌<◌, true}
use Rattle.peano_keys.specs.declared.cell.CellKey.{CellKey}
use Rattle.peano_keys.specs.declared.vertex.VertexKey.{VertexKey}
use Rattle.peano_keys.specs.Dim.{corners}
use Rattle.peano_keys.specs.Cell.{IsCell}
use Rattle.peano_keys.specs.Vertex.{Touches, corner_of}
use Rattle.peano_keys.specs.Grid.{Spacetree, is_refined, is_leaf, IsHanging}
use Rattle.curve_cuts.specs.Cuts.{Cuts, Owns, IsShared}

-- a leaf of a grid that a tree owns
pub record OwnsLeaf (k : Cuts) (g : Spacetree) (t : ℕ) (c : CellKey) : Type 0 where
  pub cell : IsCell k.dim c
  pub leaf : is_leaf g c ≡ true
  pub owns : Owns k t c

-- a vertex has a refined cell of its level beside it
pub record HasRefined (g : Spacetree) (v : VertexKey) : Type 0 where
  pub cell : CellKey
  pub inside : IsCell g.dim cell
  pub touches : Touches cell v
  pub refined : is_refined g cell ≡ true

-- a corner is at a border where it hangs, where another tree holds a position round it, or where a refined cell is beside it
pub data IsAtBorder (k : Cuts) (g : Spacetree) (t : ℕ) (v : VertexKey) : Type 0 where
  hangs : IsHanging g v → IsAtBorder k g t v
  shared : IsShared k t v → IsAtBorder k g t v
  refined : HasRefined g v → IsAtBorder k g t v

-- some corner of a cell is at a border
abbrev pub HasBorder : Cuts → Spacetree → ℕ → CellKey → Type 0
HasBorder k g t c = (n : ℕ) × (n < corners k.dim) × IsAtBorder k g t (corner_of c n)

-- a skeleton leaf of a tree
abbrev pub IsSkeleton : Cuts → Spacetree → ℕ → CellKey → Type 0
IsSkeleton k g t c = OwnsLeaf k g t c × HasBorder k g t c

-- every other leaf that the tree owns is an enclave
abbrev pub IsEnclave : Cuts → Spacetree → ℕ → CellKey → Type 0
IsEnclave k g t c = OwnsLeaf k g t c × ¬ HasBorder k g t c
