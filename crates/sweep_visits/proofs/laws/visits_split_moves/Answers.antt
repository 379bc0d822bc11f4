use Rattle.sweep_visits.proofs.Moments.{visits_split_moves}
use Rattle.sweep_visits.proofs.laws.visits_split_moves.Goals as goal

pub returns : goal.returns
returns c = visits_split_moves
