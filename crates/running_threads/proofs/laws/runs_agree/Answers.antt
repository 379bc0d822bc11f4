use Rattle.running_threads.proofs.Runs.{history, agree_first}
use Rattle.running_threads.proofs.laws.runs_agree.Goals as goal

pub returns : goal.returns
returns g c updated r = c.pools_are_cores.ensures updated r.core r.moments _ r.begins.moments (agree_first c.args.pool.now r c.new_pools_agree.ensures) (history c.args.pool.now r updated)
