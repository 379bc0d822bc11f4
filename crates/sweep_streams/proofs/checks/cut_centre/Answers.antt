use Rattle.sweep_streams.proofs.Computed.{cut_centre}
use Rattle.sweep_streams.proofs.checks.cut_centre.Goals as goal

pub returns : goal.returns
returns c = cut_centre
