use Rattle.step_phases.proofs.Moments.{moved_tells_both}
use Rattle.step_phases.proofs.sweep_laws.moved_tells_both.Goals as goal

pub returns : goal.returns
returns c = moved_tells_both
