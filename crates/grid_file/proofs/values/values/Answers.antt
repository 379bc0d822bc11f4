use Rattle.std.proofs.Common.{sym}
use Rattle.grid_file.proofs.Lists.{values_in-Wave-short, values_in-Wave-long, values_in-long}
use Rattle.grid_file.proofs.values.values.Goals as goal

pub returns-in_default-clause-value : goal.returns-in_default-clause-value
returns-in_default-clause-value c = sym (values_in-Wave-short _ _ c.in_default.is-0 c.in_default.len_below)

pub returns-in_default-2-clause-value : goal.returns-in_default-2-clause-value
returns-in_default-2-clause-value c = sym (values_in-Wave-long _ _ c.in_default.is-0 c.in_default.len_at_least)

pub returns-in_default-4-clause-value : goal.returns-in_default-4-clause-value
returns-in_default-4-clause-value c = sym (values_in-long _ _ c.in_default.not-Wave-0 c.in_default.len_at_least)
