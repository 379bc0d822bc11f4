use Rattle.std.proofs.Common.{◌∙◌}
use Rattle.shared_sums.proofs.Keys.{above_same}
use Rattle.shared_sums.proofs.totals.is_above.Goals as goal

pub returns : goal.returns
returns c = c.eq.ensures ∙ above_same c.args.cell c.args.lower c.extent-width.result c.if-lower-cell.false c.extent-width.ensures.value
