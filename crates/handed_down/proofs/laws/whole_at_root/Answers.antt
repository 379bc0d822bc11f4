use Rattle.handed_down.proofs.Inside.{root_all}
use Rattle.handed_down.proofs.laws.whole_at_root.Goals as goal

pub returns : goal.returns
returns c = root_all
