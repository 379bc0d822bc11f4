use Rattle.pool_events.proofs.Histories.{history_is}
use Rattle.pool_events.proofs.laws.pools_are_cores.Goals as goal

pub returns : goal.returns
returns g c updated core ms hs before agree history = history_is updated c.args.pool.now core ms hs before agree history
