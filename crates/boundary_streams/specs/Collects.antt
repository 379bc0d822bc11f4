-- What a tree sends.
use Rattle.std.specs.Prelude.{◌≡◌, ℕ, ◌<◌, List, map, filter, length}
use Rattle.peano_records.specs.declared.stored.Stored.{Stored}
use Rattle.peano_records.specs.declared.stored.Parcel.{Parcel}
use Rattle.vertex_stacks.specs.Lists.{parcel_of}
use Rattle.curve_cuts.specs.Cuts.{Cuts}
use Rattle.tree_automaton.specs.TreeLists.{TreeLists}
use Rattle.boundary_streams.specs.Sent.{Outgoing, parcels_for}
use Rattle.boundary_streams.specs.Holders.{is_sent}

-- what a tree sends another one of the vertices that lie in its store, in the order of the stream
abbrev pub sent_from : Cuts → ℕ → ℕ → List Stored → List Parcel
sent_from k s t vs = map parcel_of (filter (λ v. is_sent k s t v.key) vs)

-- a tree's box has for each tree the parcels of the vertices round which that one holds a position
pub record IsCollected (k : Cuts) (s : TreeLists) (o : Outgoing) : Type 0 where
  pub sender : o.sender ≡ s.tree
  pub trees : length o.parcels ≡ k.trees
  pub parcels : (t : ℕ) → t < k.trees → parcels_for o t ≡ sent_from k s.tree t s.lanes.input
