use Rattle.stack_walks.proofs.Vertices.{vertices_pass_along_lanes}
use Rattle.stack_walks.proofs.corner_laws.vertices_pass_along_lanes.Goals as goal

pub returns : goal.returns
returns g c = vertices_pass_along_lanes _
