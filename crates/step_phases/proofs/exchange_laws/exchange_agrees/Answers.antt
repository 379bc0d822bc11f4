use Rattle.step_phases.proofs.Exchanges.{exchange_agrees}
use Rattle.step_phases.proofs.exchange_laws.exchange_agrees.Goals as goal

pub returns : goal.returns
returns c = exchange_agrees
