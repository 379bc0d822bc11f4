use Rattle.step_driver.proofs.Standing.{world_stands}
use Rattle.step_driver.proofs.laws.world_stands.Goals as goal

pub returns : goal.returns
returns g c = world_stands
