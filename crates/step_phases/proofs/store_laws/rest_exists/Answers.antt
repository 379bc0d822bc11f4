use Rattle.step_phases.proofs.Rests.{rest_exists}
use Rattle.step_phases.proofs.store_laws.rest_exists.Goals as goal

pub returns : goal.returns
returns c = rest_exists
