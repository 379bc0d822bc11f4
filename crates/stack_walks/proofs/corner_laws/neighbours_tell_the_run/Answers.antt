use Rattle.stack_walks.proofs.Handing.{neighbours_tell_the_run}
use Rattle.stack_walks.proofs.corner_laws.neighbours_tell_the_run.Goals as goal

pub returns : goal.returns
returns c = neighbours_tell_the_run
