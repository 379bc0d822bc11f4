use Rattle.pool_events.proofs.Did.{collect_did}
use Rattle.pool_events.proofs.calls.collect.Goals as goal

pub returns-clause-did : goal.returns-clause-did
returns-clause-did g c = collect_did c.args.k c.collect.result _ _ c.collect.ensures.found c.requires.fresh
