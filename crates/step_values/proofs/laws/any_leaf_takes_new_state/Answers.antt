use Rattle.step_values.proofs.Values.{any_leaf_takes_new_state}
use Rattle.step_values.proofs.laws.any_leaf_takes_new_state.Goals as goal

pub returns : goal.returns
returns c = any_leaf_takes_new_state
