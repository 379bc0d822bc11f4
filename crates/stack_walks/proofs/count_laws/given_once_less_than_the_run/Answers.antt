use Rattle.stack_walks.proofs.RunLengths.{given_once_less_than_the_run}
use Rattle.stack_walks.proofs.count_laws.given_once_less_than_the_run.Goals as goal

pub returns : goal.returns
returns c = given_once_less_than_the_run
