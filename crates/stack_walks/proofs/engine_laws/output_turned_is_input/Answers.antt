use Rattle.stack_walks.proofs.Streams.{output_turned_is_input}
use Rattle.stack_walks.proofs.engine_laws.output_turned_is_input.Goals as goal

pub returns : goal.returns
returns g c = output_turned_is_input _
