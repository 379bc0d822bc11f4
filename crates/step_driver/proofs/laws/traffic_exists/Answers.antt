use Rattle.step_driver.proofs.TrafficExists.{traffic_exists}
use Rattle.step_driver.proofs.laws.traffic_exists.Goals as goal

pub returns : goal.returns
returns c = traffic_exists
