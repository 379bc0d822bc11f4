use Rattle.step_phases.proofs.Lists.{rest_is_record}
use Rattle.step_phases.proofs.store_laws.rest_is_record.Goals as goal

pub returns : goal.returns
returns c = rest_is_record
