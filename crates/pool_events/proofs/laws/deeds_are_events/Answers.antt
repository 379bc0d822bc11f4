use Rattle.pool_events.proofs.Steps.{deed_at}
use Rattle.pool_events.proofs.laws.deeds_are_events.Goals as goal

pub returns : goal.returns
returns g c updated core i t d m n at before after does agrees = deed_at updated core i t d m n before after does agrees
