use Rattle.stack_law.proofs.Together.{lanes_are_stacks}
use Rattle.stack_law.proofs.lane_laws.lanes_are_stacks.Goals as goal

pub returns : goal.returns
returns g c = lanes_are_stacks _
