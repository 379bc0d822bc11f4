use Rattle.pool_events.proofs.Spawned.{claimed_spawned}
use Rattle.pool_events.proofs.laws.claims_were_spawned.Goals as goal

pub returns : goal.returns
returns g c i t m seat k v is at e = claimed_spawned t i m seat k v is at e
