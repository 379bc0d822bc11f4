use Rattle.sweep_streams.proofs.Computed.{raised_centre}
use Rattle.sweep_streams.proofs.checks.raised_centre.Goals as goal

pub returns : goal.returns
returns c = raised_centre
