use Rattle.stack_walks.proofs.Ends.{each_vertex_ends_once}
use Rattle.stack_walks.proofs.count_laws.each_vertex_ends_once.Goals as goal

pub returns : goal.returns
returns c = each_vertex_ends_once
