use Rattle.pool_events.proofs.Manned.{manned_moment}
use Rattle.pool_events.proofs.laws.pools_have_moments.Goals as goal

pub returns : goal.returns
returns g c i t h helpers m at is = manned_moment c.args.pool.now t i h helpers m at is
