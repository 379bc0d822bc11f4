-- The copies of a tree by their keys.
use Rattle.std.specs.Prelude.{◌≡◌, List, [], ◌∷◌, if◌then◌else◌}
use Rattle.peano_keys.specs.declared.vertex.VertexKey.{VertexKey}
use Rattle.peano_records.specs.declared.stored.Stored.{Stored}
use Rattle.peano_records.specs.Slots.{untold}
use Rattle.sweep_visits.specs.Moves.{same_vertex}
use Rattle.tree_automaton.specs.Story.{IsAmong}
use Rattle.step_phases.specs.Stores.{Store}

-- the record of each key among vertices, the first where there are more
abbrev pub copies : List Stored → Store
copies [] v = untold
copies (s ∷ ss) v = if same_vertex s.key v then s else copies ss v

-- a key's copy is one of the vertices, and has the key
pub record IsCopy (ss : List Stored) (v : VertexKey) : Type 0 where
  pub key : (copies ss v).key ≡ v
  pub among : IsAmong (copies ss v) ss
