use Rattle.boundary_streams.proofs.Agrees.{third_rests}
use Rattle.boundary_streams.proofs.laws.third_rests.Goals as goal

pub returns : goal.returns
returns c = third_rests
