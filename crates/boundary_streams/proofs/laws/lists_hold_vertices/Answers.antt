use Rattle.boundary_streams.proofs.Stored.{lists_hold_vertices}
use Rattle.boundary_streams.proofs.laws.lists_hold_vertices.Goals as goal

pub returns : goal.returns
returns c = lists_hold_vertices
