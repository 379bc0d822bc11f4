use Rattle.step_phases.proofs.Sweeps.{primary_sweep}
use Rattle.step_phases.proofs.sweep_laws.primary_sweep.Goals as goal

pub returns : goal.returns
returns c = primary_sweep
