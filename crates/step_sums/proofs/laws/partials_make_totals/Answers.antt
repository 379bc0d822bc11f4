use Rattle.step_sums.proofs.Totals.{partials_make_totals}
use Rattle.step_sums.proofs.laws.partials_make_totals.Goals as goal

pub returns : goal.returns
returns c = partials_make_totals
