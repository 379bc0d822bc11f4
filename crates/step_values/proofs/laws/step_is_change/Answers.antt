use Rattle.step_values.proofs.Values.{step_is_change}
use Rattle.step_values.proofs.laws.step_is_change.Goals as goal

pub returns : goal.returns
returns c = step_is_change
