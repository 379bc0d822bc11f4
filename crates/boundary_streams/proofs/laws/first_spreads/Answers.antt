use Rattle.boundary_streams.proofs.Agrees.{first_spreads}
use Rattle.boundary_streams.proofs.laws.first_spreads.Goals as goal

pub returns : goal.returns
returns c = first_spreads
