use Rattle.sweep_visits.proofs.Moments.{sweep_begins_and_ends}
use Rattle.sweep_visits.proofs.laws.sweep_begins_and_ends.Goals as goal

pub returns : goal.returns
returns c = sweep_begins_and_ends
