use Rattle.step_driver.proofs.Standing.{world_is_at_one}
use Rattle.step_driver.proofs.laws.world_is_at_one.Goals as goal

pub returns : goal.returns
returns g c = world_is_at_one
