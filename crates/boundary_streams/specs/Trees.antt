-- The stores of the trees of keys.
use Rattle.std.specs.Prelude.{◌≡◌, ◌↔◌, ℕ, ◌<◌, ◌≤◌, true, All, map}
use Rattle.peano_keys.specs.declared.vertex.VertexKey.{VertexKey}
use Rattle.peano_keys.specs.Vertex.{IsVertex}
use Rattle.peano_keys.specs.Grid.{Spacetree}
use Rattle.curve_cuts.specs.Cuts.{Cuts, range_of, HasVertex}
use Rattle.stack_law.specs.Once.{IsIn}
use Rattle.stack_law.specs.Stack.{AreDistinct}
use Rattle.sweep_visits.specs.Moves.{same_vertex}
use Rattle.step_phases.specs.Stores.{Stores}
use Rattle.swept_slots.specs.Copies.{copies}
use Rattle.tree_automaton.specs.TreeLists.{TreeLists}
use Rattle.tree_automaton.specs.Sweeps.{key_of}

-- a vertex of the domain, of a level down to the depth
pub record IsKeyOf (k : Cuts) (v : VertexKey) : Type 0 where
  pub vertex : IsVertex k.dim v
  pub level : v.level ≤ k.depth

-- a live store of one of the trees, in which vertices of the domain lie
pub record IsTreeOf (k : Cuts) (s : TreeLists) : Type 0 where
  pub live : s.live ≡ true
  pub dim : s.lanes.dim ≡ k.dim
  pub depth : s.depth ≡ k.depth
  pub tree : s.tree < k.trees
  pub range : s.range ≡ range_of k s.tree
  pub keys : All (λ v. IsKeyOf k v.key) s.lanes.input

-- a store has each stored vertex of a tree's, once, and no other
pub record HoldsVertices (k : Cuts) (g : Spacetree) (t : ℕ) (s : TreeLists) : Type 0 where
  pub tree : s.tree ≡ t
  pub distinct : AreDistinct same_vertex (map key_of s.lanes.input)
  pub members : (v : VertexKey) → IsIn v (map key_of s.lanes.input) ↔ HasVertex k g t v

-- the copies of all trees, by number
abbrev pub copies_of : (ℕ → TreeLists) → Stores
copies_of stores t = copies (stores t).lanes.input
