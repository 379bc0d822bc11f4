use Rattle.stack_walks.proofs.Instances.{next_walk_reads_the_output}
use Rattle.stack_walks.proofs.engine_laws.next_walk_reads_the_output.Goals as goal

pub returns : goal.returns
returns g c = next_walk_reads_the_output _
