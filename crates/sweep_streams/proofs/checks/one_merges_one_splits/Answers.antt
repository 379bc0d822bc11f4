use Rattle.sweep_streams.proofs.Computed.{one_merges_one_splits}
use Rattle.sweep_streams.proofs.checks.one_merges_one_splits.Goals as goal

pub returns : goal.returns
returns c = one_merges_one_splits
