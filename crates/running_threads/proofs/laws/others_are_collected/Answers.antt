use Rattle.running_threads.proofs.Ends.{other_collected}
use Rattle.running_threads.proofs.laws.others_are_collected.Goals as goal

pub returns : goal.returns
returns g c updated r i n small later above below = other_collected c.args.pool.now updated r i small n later above below
