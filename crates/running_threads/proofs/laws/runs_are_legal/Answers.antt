use Rattle.running_threads.proofs.Runs.{legal}
use Rattle.running_threads.proofs.laws.runs_are_legal.Goals as goal

pub returns : goal.returns
returns g c updated r = legal c.args.pool.now r updated c.pools_are_cores.ensures c.deeds_are_events.ensures c.new_pools_agree.ensures
