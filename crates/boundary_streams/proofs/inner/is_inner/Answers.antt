use Rattle.curve_cuts.specs.Keys.{cuts_of}
use Rattle.curve_cuts.proofs.Around.{inner_not_shared}
use Rattle.boundary_streams.proofs.inner.is_inner.Goals as goal

pub returns-in-Some : goal.returns-in-Some
returns-in-Some c = λ h. inner_not_shared (cuts_of c.args.keys.now) c.args.tree c.args.vertex c.in-Some.cell c.dim.result c.dim.ensures c.requires.cuts c.requires.tree c.in-Some.ensures.cell c.in-Some.ensures.round c.requires.key.level (c.is_whole.ensures h)
