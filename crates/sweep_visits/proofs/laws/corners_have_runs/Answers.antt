use Rattle.sweep_visits.proofs.Ways.{corners_have_runs}
use Rattle.sweep_visits.proofs.laws.corners_have_runs.Goals as goal

pub returns : goal.returns
returns c = corners_have_runs
