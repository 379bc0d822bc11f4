use Rattle.tree_sums.proofs.Changes.{means_leave_out_shared}
use Rattle.tree_sums.proofs.laws.means_leave_out_shared.Goals as goal

pub returns : goal.returns
returns c = means_leave_out_shared
