use Rattle.sweep_streams.proofs.Computed.{centre_finds_its_vertices}
use Rattle.sweep_streams.proofs.checks.centre_finds_its_vertices.Goals as goal

pub returns : goal.returns
returns c = centre_finds_its_vertices
