use Rattle.running_threads.proofs.Ends.{number_of}
use Rattle.running_threads.proofs.laws.numbers_are_of_leaves.Goals as goal

pub returns : goal.returns
returns g c updated r i l small at = number_of c.args.pool.now updated r i small l at
