use Rattle.step_phases.proofs.Sweeps.{raise_sweep}
use Rattle.step_phases.proofs.sweep_laws.raise_sweep.Goals as goal

pub returns : goal.returns
returns c = raise_sweep
