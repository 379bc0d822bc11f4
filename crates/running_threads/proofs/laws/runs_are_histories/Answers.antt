use Rattle.running_threads.proofs.Runs.{history}
use Rattle.running_threads.proofs.laws.runs_are_histories.Goals as goal

pub returns : goal.returns
returns g c updated r = history c.args.pool.now r updated
