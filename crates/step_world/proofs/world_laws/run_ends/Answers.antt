use Rattle.step_world.proofs.Worlds.{run_ends}
use Rattle.step_world.proofs.world_laws.run_ends.Goals as goal

pub returns : goal.returns
returns c = run_ends
