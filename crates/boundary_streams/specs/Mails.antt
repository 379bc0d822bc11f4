-- What a tree keeps of what it was sent.
use Rattle.std.specs.Prelude.{◌≡◌, ◌≢◌, ℕ, ◌==◌, ◌&&◌, nat_eq, false, Bool, List, Option, Some, None, if◌then◌else◌, slice_index}
use Rattle.std.specs.Cmp.Lexicographic.{pointwise}
use Rattle.std.specs.Option.{option_or}
use Rattle.indexmap.specs.IndexMap.{get}
use Rattle.indexmap.specs.IndexSet.{contains}
use Rattle.peano_keys.specs.declared.vertex.VertexKey.{VertexKey}
use Rattle.peano_records.specs.declared.stored.Parcel.{Parcel}
use Rattle.curve_cuts.specs.Cuts.{Cuts}
use Rattle.boundary_streams.specs.declared.received.Address.{Address}
use Rattle.boundary_streams.specs.declared.received.Received.{Received}
use Rattle.boundary_streams.specs.Sent.{Mail, Outgoing, last_of, sent_to}
use Rattle.boundary_streams.specs.Merges.{OwnsSlot}

-- whether two keys are of one vertex, as the tables ask
abbrev pub is_vertex_key : VertexKey → VertexKey → Bool
is_vertex_key a b = (a.level == b.level) && pointwise nat_eq a.v b.v

-- and from one sender
abbrev pub is_address : Address → Address → Bool
is_address a b = (a.sender == b.sender) && is_vertex_key a.vertex b.vertex

-- the parcel at an address
abbrev pub parcel_at : Received → Address → Option Parcel
parcel_at r a = get is_address r.parcels a

-- a parcel of a sender was added
abbrev pub HasOneMore : ℕ → Parcel → Received → Received → Type 0
HasOneMore s p old new = (a : Address)
    → parcel_at new a
    ≡ (if is_address (record { sender = s; vertex = p.key }) a then Some p else parcel_at old a)

-- the parcels of a sender were added: of each vertex the last
abbrev pub HasNoted : ℕ → List Parcel → Received → Received → Type 0
HasNoted s list old new = (a : Address)
    → parcel_at new a
    ≡ (if s == a.sender then option_or (last_of a.vertex list) (parcel_at old a)
    else parcel_at old a)

-- all parcels that these boxes have for a tree were added
abbrev pub HasReceived : ℕ → List Outgoing → Received → Type 0
HasReceived t os r = (a : Address) → parcel_at r a ≡ sent_to os t a.sender a.vertex

-- of a vertex that is not among those noted there is no parcel
abbrev pub Covers : Received → Type 0
Covers r = (a : Address) → contains is_vertex_key r.vertices a.vertex ≡ false → parcel_at r a ≡ None

-- the parcels as those of senders
abbrev pub mail_of : Received → Mail
mail_of r s v = parcel_at r (record { sender = s; vertex = v })

-- the number of the tree that owns the slot of a vertex; the tree's own where there is none
pub record IsOwnerAt (k : Cuts) (t : ℕ) (v : VertexKey) (n o : ℕ) : Type 0 where
  pub one : (s : ℕ) → OwnsSlot k s v n → s ≡ o
  pub other : o ≢ t → OwnsSlot k o v n

-- the parcel for a slot by the owners of the cells round the vertex: none for the tree's own
abbrev pub source_of : Mail → List ℕ → ℕ → VertexKey → ℕ → Option Parcel
source_of mail owners t v n = if slice_index owners n == t then None
    else mail (slice_index owners n) v

-- what is found for a slot: what the owner sent, where that is another tree
pub record IsSource (k : Cuts) (mail : Mail) (t : ℕ) (v : VertexKey) (n : ℕ)
    (found : Option Parcel) : Type 0 where
  pub others : (o : ℕ) → OwnsSlot k o v n → o ≢ t → found ≡ mail o v
  pub own : ((o : ℕ) → OwnsSlot k o v n → o ≡ t) → found ≡ None
