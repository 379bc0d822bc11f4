use Rattle.pool_events.proofs.Manned.{new_agrees}
use Rattle.pool_events.proofs.laws.new_pools_agree.Goals as goal

pub returns : goal.returns
returns g c core ms are new none = new_agrees c.args.pool.now core ms are new none
