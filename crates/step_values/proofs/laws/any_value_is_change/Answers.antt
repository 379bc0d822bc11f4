use Rattle.step_values.proofs.Values.{any_value_is_change}
use Rattle.step_values.proofs.laws.any_value_is_change.Goals as goal

pub returns : goal.returns
returns c = any_value_is_change
