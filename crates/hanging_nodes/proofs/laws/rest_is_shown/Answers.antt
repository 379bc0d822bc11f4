use Rattle.hanging_nodes.proofs.Told.{rest_is_shown}
use Rattle.hanging_nodes.proofs.laws.rest_is_shown.Goals as goal

pub returns : goal.returns
returns c = rest_is_shown
