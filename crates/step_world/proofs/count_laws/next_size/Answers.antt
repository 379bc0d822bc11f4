use Rattle.step_world.proofs.Counts.{next_size}
use Rattle.step_world.proofs.count_laws.next_size.Goals as goal

pub returns : goal.returns
returns c = next_size
