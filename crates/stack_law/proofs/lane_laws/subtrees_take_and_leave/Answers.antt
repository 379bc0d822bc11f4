use Rattle.stack_law.proofs.Taken.{subtrees_take_and_leave}
use Rattle.stack_law.proofs.lane_laws.subtrees_take_and_leave.Goals as goal

pub returns : goal.returns
returns g c = subtrees_take_and_leave _
