use Rattle.step_values.proofs.Values.{value_splits_evenly}
use Rattle.step_values.proofs.laws.value_splits_evenly.Goals as goal

pub returns : goal.returns
returns c = value_splits_evenly
