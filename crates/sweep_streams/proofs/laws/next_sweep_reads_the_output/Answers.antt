use Rattle.sweep_streams.proofs.Streams.{next_sweep_reads_the_output}
use Rattle.sweep_streams.proofs.laws.next_sweep_reads_the_output.Goals as goal

pub returns : goal.returns
returns c = next_sweep_reads_the_output
