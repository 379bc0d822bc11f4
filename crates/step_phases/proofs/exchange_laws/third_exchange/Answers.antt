use Rattle.step_phases.proofs.Exchanges.{third_exchange}
use Rattle.step_phases.proofs.exchange_laws.third_exchange.Goals as goal

pub returns : goal.returns
returns c = third_exchange
