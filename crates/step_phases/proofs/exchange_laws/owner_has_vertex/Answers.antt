use Rattle.step_phases.proofs.Exchanges.{owner_has_vertex}
use Rattle.step_phases.proofs.exchange_laws.owner_has_vertex.Goals as goal

pub returns : goal.returns
returns c = owner_has_vertex
