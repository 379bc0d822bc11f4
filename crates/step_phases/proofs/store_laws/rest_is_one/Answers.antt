use Rattle.step_phases.proofs.Rests.{rest_is_one}
use Rattle.step_phases.proofs.store_laws.rest_is_one.Goals as goal

pub returns : goal.returns
returns c = rest_is_one
