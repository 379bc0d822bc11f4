use Rattle.step_world.proofs.Worlds.{step_stands}
use Rattle.step_world.proofs.world_laws.step_stands.Goals as goal

pub returns : goal.returns
returns c = step_stands
