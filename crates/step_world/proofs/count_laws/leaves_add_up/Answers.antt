use Rattle.step_world.proofs.Counts.{leaves_add_up}
use Rattle.step_world.proofs.count_laws.leaves_add_up.Goals as goal

pub returns : goal.returns
returns c = leaves_add_up
