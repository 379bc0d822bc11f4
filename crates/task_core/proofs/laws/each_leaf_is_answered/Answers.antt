use Rattle.task_core.proofs.Covered.{answered}
use Rattle.task_core.proofs.laws.each_leaf_is_answered.Goals as goal

pub returns : goal.returns
returns c = answered
