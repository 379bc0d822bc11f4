use Rattle.step_phases.proofs.Moments.{made_tells_new}
use Rattle.step_phases.proofs.sweep_laws.made_tells_new.Goals as goal

pub returns : goal.returns
returns c = made_tells_new
