use Rattle.std.proofs.Common.{arith}
use Rattle.std.proofs.lemmas.Grind.{common_steps}
use Rattle.shared_sums.proofs.Sums.{sum_append}
use Rattle.shared_sums.proofs.totals.added_in.Goals as goal

pub loop-partials-preserved : goal.loop-partials-preserved
loop-partials-preserved c = grind (arith, common_steps, sum_append)
