use Rattle.stack_walks.proofs.Sanity.{centre_finds_its_vertices}
use Rattle.stack_walks.proofs.checks.centre_finds_its_vertices.Goals as goal

pub returns : goal.returns
returns c = centre_finds_its_vertices
