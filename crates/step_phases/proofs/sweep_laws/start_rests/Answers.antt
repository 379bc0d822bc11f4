use Rattle.step_phases.proofs.Sweeps.{start_rests}
use Rattle.step_phases.proofs.sweep_laws.start_rests.Goals as goal

pub returns : goal.returns
returns c = start_rests
