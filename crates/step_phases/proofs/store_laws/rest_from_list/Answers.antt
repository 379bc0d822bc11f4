use Rattle.step_phases.proofs.Lists.{rest_from_list}
use Rattle.step_phases.proofs.store_laws.rest_from_list.Goals as goal

pub returns : goal.returns
returns c = rest_from_list
