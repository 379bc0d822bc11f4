use Rattle.step_driver.proofs.Rests.{one_traffic}
use Rattle.step_driver.proofs.laws.one_traffic.Goals as goal

pub returns : goal.returns
returns c = one_traffic
