use Rattle.shared_sums.proofs.Sums.{small_sums}
use Rattle.shared_sums.proofs.totals.corrected_total.Goals as goal

pub total_in-requires-clause-small : goal.total_in-requires-clause-small
total_in-requires-clause-small c = small_sums c.args.depth c.args.dim c.args.all.now c.requires.depth c.requires.partials

pub added_in-requires-clause-small : goal.added_in-requires-clause-small
added_in-requires-clause-small c = small_sums c.args.depth c.args.dim c.args.all.now c.requires.depth c.requires.partials
