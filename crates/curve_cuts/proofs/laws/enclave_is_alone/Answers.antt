use Rattle.curve_cuts.proofs.Apart.{enclave_is_alone}
use Rattle.curve_cuts.proofs.laws.enclave_is_alone.Goals as goal

pub returns : goal.returns
returns c = enclave_is_alone
