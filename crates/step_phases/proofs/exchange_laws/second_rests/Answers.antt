use Rattle.step_phases.proofs.Exchanges.{second_rests}
use Rattle.step_phases.proofs.exchange_laws.second_rests.Goals as goal

pub returns : goal.returns
returns c = second_rests
