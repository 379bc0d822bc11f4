use Rattle.step_phases.proofs.Exchanges.{opening_rests}
use Rattle.step_phases.proofs.exchange_laws.opening_rests.Goals as goal

pub returns : goal.returns
returns c = opening_rests
