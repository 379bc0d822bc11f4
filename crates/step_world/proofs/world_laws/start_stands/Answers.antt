use Rattle.step_world.proofs.Worlds.{start_stands}
use Rattle.step_world.proofs.world_laws.start_stands.Goals as goal

pub returns : goal.returns
returns c = start_stands
