use Rattle.sweep_streams.proofs.Records.{backward_sweep_is_reversed}
use Rattle.sweep_streams.proofs.laws.backward_sweep_is_reversed.Goals as goal

pub returns : goal.returns
returns c = backward_sweep_is_reversed
