use Rattle.step_phases.proofs.Lists.{second_is_record}
use Rattle.step_phases.proofs.store_laws.second_is_record.Goals as goal

pub returns : goal.returns
returns c = second_is_record
