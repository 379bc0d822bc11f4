use Rattle.sweep_visits.proofs.Moments.{corners_in_turn}
use Rattle.sweep_visits.proofs.laws.corners_in_turn.Goals as goal

pub returns : goal.returns
returns c = corners_in_turn
