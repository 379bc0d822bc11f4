use Rattle.peano_curve.proofs.Gray.{run_is_gray}
use Rattle.peano_curve.proofs.laws.run_is_gray.Goals as goal

pub returns : goal.returns
returns c = run_is_gray
