use Rattle.adapt_sweep.proofs.Uniform.{uniform_by}
use Rattle.adapt_sweep.proofs.raise.Raise.new.Goals as goal

pub invariant_of-result : goal.invariant_of-result
invariant_of-result c = record {
  uniform = uniform_by c.requires.parts.0 c.args.grid.now c.args.field.now c.requires.depth c.requires.parts.1;
  same = c.requires.dim;
  one = c.requires.one;
}
