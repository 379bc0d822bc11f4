use Rattle.step_phases.proofs.Sweeps.{secondary_sweep}
use Rattle.step_phases.proofs.sweep_laws.secondary_sweep.Goals as goal

pub returns : goal.returns
returns c = secondary_sweep
