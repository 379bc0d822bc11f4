use Rattle.step_phases.proofs.Lists.{list_rests}
use Rattle.step_phases.proofs.store_laws.list_rests.Goals as goal

pub returns : goal.returns
returns c = list_rests
