use Rattle.stack_law.proofs.Walk.{walk_of_visited_does_all}
use Rattle.stack_law.proofs.walk_laws.walk_of_visited_does_all.Goals as goal

pub returns : goal.returns
returns g c = walk_of_visited_does_all _
