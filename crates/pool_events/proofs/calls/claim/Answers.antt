use Rattle.pool_events.proofs.Did.{claim_did}
use Rattle.pool_events.proofs.calls.claim.Goals as goal

pub returns-clause-did : goal.returns-clause-did
returns-clause-did g c = claim_did c.claim.result _ c.args.k _ _ c.claim.ensures.view c.claim.ensures.fresh
