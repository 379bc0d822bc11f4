use Rattle.hanging_nodes.proofs.Exist.{views_exist}
use Rattle.hanging_nodes.proofs.laws.views_exist.Goals as goal

pub returns : goal.returns
returns c = views_exist
