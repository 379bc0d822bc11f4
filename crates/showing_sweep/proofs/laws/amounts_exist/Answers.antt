use Rattle.showing_sweep.proofs.AmountsExist.{amounts_exist}
use Rattle.showing_sweep.proofs.laws.amounts_exist.Goals as goal

pub returns : goal.returns
returns c = amounts_exist
