use Rattle.step_world.proofs.Worlds.{plain_step_stands}
use Rattle.step_world.proofs.world_laws.plain_step_stands.Goals as goal

pub returns : goal.returns
returns c = plain_step_stands
