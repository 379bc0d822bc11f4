use Rattle.showing_sweep.proofs.Exact.{amounts_are_one as law}
use Rattle.showing_sweep.proofs.laws.amounts_are_one.Goals as goal

pub returns : goal.returns
returns c = law
