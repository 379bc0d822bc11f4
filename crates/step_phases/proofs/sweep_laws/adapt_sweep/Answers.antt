use Rattle.step_phases.proofs.Sweeps.{adapt_sweep}
use Rattle.step_phases.proofs.sweep_laws.adapt_sweep.Goals as goal

pub returns : goal.returns
returns c = adapt_sweep
