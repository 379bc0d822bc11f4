use Rattle.stack_law.proofs.Ways.{ways_follow_the_order}
use Rattle.stack_law.proofs.walk_laws.ways_follow_the_order.Goals as goal

pub returns : goal.returns
returns c = ways_follow_the_order
