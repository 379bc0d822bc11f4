use Rattle.showing_sweep.proofs.Exact.{traffic_is_exact as law}
use Rattle.showing_sweep.proofs.laws.traffic_is_exact.Goals as goal

pub returns : goal.returns
returns c = law
