use Rattle.sweep_streams.proofs.Records.{next_sweep_reads_the_records}
use Rattle.sweep_streams.proofs.laws.next_sweep_reads_the_records.Goals as goal

pub returns : goal.returns
returns c = next_sweep_reads_the_records
