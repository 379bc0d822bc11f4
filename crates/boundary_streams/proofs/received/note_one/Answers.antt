use Rattle.indexmap.specs.IndexSet.{contains}
use Rattle.boundary_streams.specs.Mails.{is_vertex_key, parcel_at}
use Rattle.boundary_streams.proofs.Mail.{covers_step}
use Rattle.boundary_streams.proofs.received.note_one.Goals as goal

pub returns-clause-covers : goal.returns-clause-covers
returns-clause-covers c = λ a out. covers_step c.args.sender a c.args.parcel.now (parcel_at c.args.received.now a) (parcel_at (record { parcels = c.insert-2.new.self; vertices = c.insert.new.self }) a) (contains is_vertex_key c.args.received.now.vertices a.vertex) (contains is_vertex_key c.insert.new.self a.vertex) (c.in_ok-insert-2.ensures.updates.0 a) (c.in_ok-insert.ensures.updates.0 a.vertex) (c.requires a) out
