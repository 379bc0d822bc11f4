use Rattle.step_values.proofs.Values.{leaf_takes_new_state}
use Rattle.step_values.proofs.laws.leaf_takes_new_state.Goals as goal

pub returns : goal.returns
returns c = leaf_takes_new_state
