use Rattle.peano_run.proofs.Outcomes.{none_is_both}
use Rattle.peano_run.proofs.laws.none_is_both.Goals as goal

pub returns : goal.returns
returns c = none_is_both
