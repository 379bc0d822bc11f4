use Rattle.step_phases.proofs.Moments.{secondary_begins}
use Rattle.step_phases.proofs.sweep_laws.secondary_begins.Goals as goal

pub returns : goal.returns
returns c = secondary_begins
