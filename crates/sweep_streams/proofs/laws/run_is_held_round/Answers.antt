use Rattle.sweep_streams.proofs.Pushes.{run_is_held_round}
use Rattle.sweep_streams.proofs.laws.run_is_held_round.Goals as goal

pub returns : goal.returns
returns c = run_is_held_round
