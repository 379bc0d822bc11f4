use Rattle.step_world.proofs.Parts.{new_states_are_field}
use Rattle.step_world.proofs.step_laws.new_states_are_field.Goals as goal

pub returns : goal.returns
returns c = new_states_are_field
