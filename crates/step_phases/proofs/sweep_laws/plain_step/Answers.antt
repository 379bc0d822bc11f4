use Rattle.step_phases.proofs.Sweeps.{plain_step}
use Rattle.step_phases.proofs.sweep_laws.plain_step.Goals as goal

pub returns : goal.returns
returns c = plain_step
