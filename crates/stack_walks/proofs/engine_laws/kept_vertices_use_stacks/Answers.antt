use Rattle.stack_walks.proofs.Instances.{kept_vertices_use_stacks}
use Rattle.stack_walks.proofs.engine_laws.kept_vertices_use_stacks.Goals as goal

pub returns : goal.returns
returns c = kept_vertices_use_stacks
