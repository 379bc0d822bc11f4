use Rattle.mean_values.proofs.Steps.{next_field_is_field}
use Rattle.mean_values.proofs.laws.next_field_is_field.Goals as goal

pub returns : goal.returns
returns c = next_field_is_field
