use Rattle.step_phases.proofs.Chains.{chain_exists}
use Rattle.step_phases.proofs.sweep_laws.chain_exists.Goals as goal

pub returns : goal.returns
returns c = chain_exists
