use Rattle.sweep_visits.proofs.Lanes.{lanes_never_mix}
use Rattle.sweep_visits.proofs.laws.lanes_never_mix.Goals as goal

pub returns : goal.returns
returns c = lanes_never_mix
