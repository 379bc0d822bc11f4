use Rattle.pool_events.proofs.Did.{publish_did}
use Rattle.pool_events.proofs.calls.publish.Goals as goal

pub returns-clause-did : goal.returns-clause-did
returns-clause-did g c = publish_did c.publish.result _ c.args.k _ _ c.publish.ensures.view c.requires.claimed c.requires.fresh.0
