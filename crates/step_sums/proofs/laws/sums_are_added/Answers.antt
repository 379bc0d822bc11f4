use Rattle.step_sums.proofs.Added.{sums_are_added}
use Rattle.step_sums.proofs.laws.sums_are_added.Goals as goal

pub returns : goal.returns
returns c = sums_are_added
