use Rattle.mean_values.proofs.Steps.{one_field_of_new_states}
use Rattle.mean_values.proofs.laws.one_field_of_new_states.Goals as goal

pub returns : goal.returns
returns c = one_field_of_new_states
