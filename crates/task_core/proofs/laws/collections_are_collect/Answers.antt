use Rattle.task_core.proofs.Desks.{collections_are_collect}
use Rattle.task_core.proofs.laws.collections_are_collect.Goals as goal

pub returns : goal.returns
returns c = collections_are_collect
