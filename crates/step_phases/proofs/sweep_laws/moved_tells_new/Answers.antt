use Rattle.step_phases.proofs.Moments.{moved_tells_new}
use Rattle.step_phases.proofs.sweep_laws.moved_tells_new.Goals as goal

pub returns : goal.returns
returns c = moved_tells_new
