use Rattle.boundary_streams.proofs.Agrees.{opening_rests}
use Rattle.boundary_streams.proofs.laws.opening_rests.Goals as goal

pub returns : goal.returns
returns c = opening_rests
