use Rattle.step_values.proofs.Values.{value_shows_leaves}
use Rattle.step_values.proofs.laws.value_shows_leaves.Goals as goal

pub returns : goal.returns
returns c = value_shows_leaves
