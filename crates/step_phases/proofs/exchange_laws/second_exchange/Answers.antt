use Rattle.step_phases.proofs.Exchanges.{second_exchange}
use Rattle.step_phases.proofs.exchange_laws.second_exchange.Goals as goal

pub returns : goal.returns
returns c = second_exchange
