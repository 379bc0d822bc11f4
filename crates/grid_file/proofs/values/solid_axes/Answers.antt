use Rattle.std.proofs.Common.{sym, arith, rules}
use Rattle.grid_file.proofs.Lists.{axes_in-solid-short, axes_in-solid-long}
use Rattle.grid_file.proofs.values.solid_axes.Goals as goal
use Rattle.grid_file.proofs.values.solid_axes.Goals.{in_default-via-then-items-lt3, in_default-via-else-items-lt3+else-items-lt4}

pub returns-in_default : goal.returns-in_default
returns-in_default c = elim c.in_default.branch [ in_default-via-then-items-lt3 w ↦ sym (axes_in-solid-short c.args.items.now (search (rules, arith))) | in_default-via-else-items-lt3+else-items-lt4 w ↦ sym (axes_in-solid-long c.args.items.now (search (rules, arith))) ]
