-- The other trees of vertices.
use Rattle.std.specs.Prelude.{◌≢◌, ℕ, ◌≤◌, List, IsSomeAnd}
use Rattle.stack_law.specs.Once.{IsIn}
use Rattle.peano_keys.specs.declared.vertex.VertexKey.{VertexKey}
use Rattle.peano_keys.specs.Vertex.{IsVertex, adjacent_of}
use Rattle.curve_cuts.specs.Cuts.{Cuts, Held, HasCorner}

-- a vertex of the domain, of a level down to the depth
pub record IsVertexOf (k : Cuts) (v : VertexKey) : Type 0 where
  pub vertex : IsVertex k.dim v
  pub level : v.level ≤ k.depth

-- a tree holds the cell at a position of a vertex
abbrev pub HoldsRound : Cuts → ℕ → VertexKey → ℕ → Type 0
HoldsRound k t v n = IsSomeAnd (adjacent_of k.dim v n) (Held k t)

-- another tree holds a position of a vertex
pub record IsOther (k : Cuts) (t : ℕ) (v : VertexKey) (other : ℕ) : Type 0 where
  pub apart : other ≢ t
  pub corner : HasCorner k other v

-- a vertex of a list and another tree that holds a position of it
pub record IsPairOf (k : Cuts) (t : ℕ) (vs : List VertexKey) (x : VertexKey × ℕ) : Type 0 where
  pub listed : IsIn x.0 vs
  pub other : IsOther k t x.0 x.1
