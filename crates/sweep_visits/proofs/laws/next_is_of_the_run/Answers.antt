use Rattle.sweep_visits.proofs.Next.{next_is_of_the_run}
use Rattle.sweep_visits.proofs.laws.next_is_of_the_run.Goals as goal

pub returns : goal.returns
returns c = next_is_of_the_run
