use Rattle.std.proofs.Common.{sym, arith, rules}
use Rattle.grid_file.proofs.Lists.{axes_in-flat-short, axes_in-flat-long}
use Rattle.grid_file.proofs.values.flat_axes.Goals as goal
use Rattle.grid_file.proofs.values.flat_axes.Goals.{in_default-via-then-items-lt2, in_default-via-else-items-lt2+else-items-lt3}

pub returns-in_default : goal.returns-in_default
returns-in_default c = elim c.in_default.branch [ in_default-via-then-items-lt2 w ↦ sym (axes_in-flat-short c.args.items.now (search (rules, arith))) | in_default-via-else-items-lt2+else-items-lt3 w ↦ sym (axes_in-flat-long c.args.items.now (search (rules, arith))) ]
