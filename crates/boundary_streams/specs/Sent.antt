-- What trees send each other.
use Rattle.std.specs.Prelude.{ℕ, ◌==◌, if◌then◌else◌, List, [], Option, flat_map, reverse, slice_index_or}
use Rattle.std.specs.List.{find}
use Rattle.peano_keys.specs.declared.vertex.VertexKey.{VertexKey}
use Rattle.peano_records.specs.declared.stored.Parcel.{Parcel}
use Rattle.sweep_visits.specs.Moves.{same_vertex}

-- a box: the number of the tree that sends, and its parcels for each tree
pub record Outgoing : Type 0 where
  pub sender : ℕ
  pub parcels : List (List Parcel)

-- those for one tree
abbrev pub parcels_for : Outgoing → ℕ → List Parcel
parcels_for o t = slice_index_or o.parcels t []

-- what a tree has of a vertex from each sender
abbrev pub Mail : Type 0
Mail = ℕ → VertexKey → Option Parcel

-- all parcels that a sender sent to a tree, in the order of the boxes
abbrev pub letters : List Outgoing → ℕ → ℕ → List Parcel
letters boxes t s = flat_map (λ o. if o.sender == s then parcels_for o t else []) boxes

-- the last parcel of a vertex among parcels
abbrev pub last_of : VertexKey → List Parcel → Option Parcel
last_of v ps = find (λ p. same_vertex p.key v) (reverse ps)

-- what boxes have for a tree: of each sender and vertex the last parcel
abbrev pub sent_to : List Outgoing → ℕ → Mail
sent_to boxes t s v = last_of v (letters boxes t s)
