use Rattle.boundary_streams.proofs.Agrees.{second_spreads}
use Rattle.boundary_streams.proofs.laws.second_spreads.Goals as goal

pub returns : goal.returns
returns c = second_spreads
