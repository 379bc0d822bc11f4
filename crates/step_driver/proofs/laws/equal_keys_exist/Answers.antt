use Rattle.step_driver.proofs.KeysExist.{equal_keys_exist}
use Rattle.step_driver.proofs.laws.equal_keys_exist.Goals as goal

pub returns : goal.returns
returns c = equal_keys_exist
