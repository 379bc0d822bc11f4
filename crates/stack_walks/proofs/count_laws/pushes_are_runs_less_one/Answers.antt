use Rattle.stack_walks.proofs.Sums.{pushes_are_runs_less_one}
use Rattle.stack_walks.proofs.count_laws.pushes_are_runs_less_one.Goals as goal

pub returns : goal.returns
returns c = pushes_are_runs_less_one
