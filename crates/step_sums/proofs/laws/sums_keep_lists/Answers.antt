use Rattle.step_sums.proofs.Added.{sums_keep_lists}
use Rattle.step_sums.proofs.laws.sums_keep_lists.Goals as goal

pub returns : goal.returns
returns c = sums_keep_lists
