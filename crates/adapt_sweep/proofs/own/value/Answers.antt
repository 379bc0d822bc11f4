use Rattle.std.proofs.Common.{◌∙◌}
use Rattle.adapt_sweep.proofs.Uniform.{on_field, value_told}
use Rattle.adapt_sweep.proofs.own.value.Goals as goal

pub value_of-requires : goal.value_of-requires
value_of-requires c = on_field c.args.grid.now c.args.field.now c.requires.field

pub returns : goal.returns
returns c = c.unwrap_or.ensures ∙ value_told c.args.grid.now c.args.field.now c.args.key c.value_of.result c.requires.field c.requires.cell c.value_of.ensures.value
