use Rattle.stack_walks.proofs.Sanity.{counts_of_small_grids}
use Rattle.stack_walks.proofs.checks.counts_of_small_grids.Goals as goal

pub returns : goal.returns
returns c = counts_of_small_grids
