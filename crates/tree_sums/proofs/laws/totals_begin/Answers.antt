use Rattle.tree_sums.proofs.Partials.{totals_begin}
use Rattle.tree_sums.proofs.laws.totals_begin.Goals as goal

pub returns : goal.returns
returns c = totals_begin
