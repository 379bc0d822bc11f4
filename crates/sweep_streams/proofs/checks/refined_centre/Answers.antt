use Rattle.sweep_streams.proofs.Computed.{refined_centre}
use Rattle.sweep_streams.proofs.checks.refined_centre.Goals as goal

pub returns : goal.returns
returns c = refined_centre
