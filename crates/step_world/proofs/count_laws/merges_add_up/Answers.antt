use Rattle.step_world.proofs.Counts.{merges_add_up}
use Rattle.step_world.proofs.count_laws.merges_add_up.Goals as goal

pub returns : goal.returns
returns c = merges_add_up
