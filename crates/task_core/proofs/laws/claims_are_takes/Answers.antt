use Rattle.task_core.proofs.Desks.{claims_are_takes}
use Rattle.task_core.proofs.laws.claims_are_takes.Goals as goal

pub returns : goal.returns
returns c = claims_are_takes
