use Rattle.step_world.proofs.Worlds.{stand_for_one}
use Rattle.step_world.proofs.world_laws.stand_for_one.Goals as goal

pub returns : goal.returns
returns c = stand_for_one
