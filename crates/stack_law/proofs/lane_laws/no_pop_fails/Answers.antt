use Rattle.stack_law.proofs.Moments.{no_pop_fails}
use Rattle.stack_law.proofs.lane_laws.no_pop_fails.Goals as goal

pub returns : goal.returns
returns g c = no_pop_fails _
