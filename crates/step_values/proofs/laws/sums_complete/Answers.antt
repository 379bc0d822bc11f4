use Rattle.step_values.proofs.Sums.{sums_complete}
use Rattle.step_values.proofs.laws.sums_complete.Goals as goal

pub returns : goal.returns
returns c = sums_complete
