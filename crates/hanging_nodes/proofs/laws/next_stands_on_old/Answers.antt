use Rattle.hanging_nodes.proofs.Told.{next_stands_on_old}
use Rattle.hanging_nodes.proofs.laws.next_stands_on_old.Goals as goal

pub returns : goal.returns
returns c = next_stands_on_old
