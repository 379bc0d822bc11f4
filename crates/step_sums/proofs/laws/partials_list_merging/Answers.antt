use Rattle.step_sums.proofs.Found.{partials_list_merging}
use Rattle.step_sums.proofs.laws.partials_list_merging.Goals as goal

pub returns : goal.returns
returns c = partials_list_merging
