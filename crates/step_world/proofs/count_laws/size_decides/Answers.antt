use Rattle.step_world.proofs.Counts.{size_decides}
use Rattle.step_world.proofs.count_laws.size_decides.Goals as goal

pub returns : goal.returns
returns c = size_decides
