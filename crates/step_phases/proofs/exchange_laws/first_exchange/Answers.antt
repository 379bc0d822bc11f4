use Rattle.step_phases.proofs.Exchanges.{first_exchange}
use Rattle.step_phases.proofs.exchange_laws.first_exchange.Goals as goal

pub returns : goal.returns
returns c = first_exchange
