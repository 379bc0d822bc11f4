use Rattle.stack_law.proofs.Given.{lanes_hold_the_rest}
use Rattle.stack_law.proofs.lane_laws.lanes_hold_the_rest.Goals as goal

pub returns : goal.returns
returns g c = lanes_hold_the_rest _
