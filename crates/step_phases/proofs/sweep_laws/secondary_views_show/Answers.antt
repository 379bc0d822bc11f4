use Rattle.step_phases.proofs.Moments.{secondary_views_show}
use Rattle.step_phases.proofs.sweep_laws.secondary_views_show.Goals as goal

pub returns : goal.returns
returns c = secondary_views_show
