use Rattle.peano_curve.proofs.Gray.{ranks_tell_apart}
use Rattle.peano_curve.proofs.laws.ranks_tell_apart.Goals as goal

pub returns : goal.returns
returns c = ranks_tell_apart
