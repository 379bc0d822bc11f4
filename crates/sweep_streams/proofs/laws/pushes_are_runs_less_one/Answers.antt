use Rattle.sweep_streams.proofs.Pushes.{pushes_are_runs_less_one}
use Rattle.sweep_streams.proofs.laws.pushes_are_runs_less_one.Goals as goal

pub returns : goal.returns
returns c = pushes_are_runs_less_one
