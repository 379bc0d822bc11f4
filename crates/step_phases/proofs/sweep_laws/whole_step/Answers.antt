use Rattle.step_phases.proofs.Sweeps.{whole_step}
use Rattle.step_phases.proofs.sweep_laws.whole_step.Goals as goal

pub returns : goal.returns
returns c = whole_step
