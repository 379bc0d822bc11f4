use Rattle.std.proofs.Common.{ap}
use Rattle.curve_cuts.specs.Keys.{cuts_of}
use Rattle.bench_visits.proofs.Rests.{stands}
use Rattle.bench_visits.proofs.domain.raised.Goals as goal

pub returns : goal.returns
returns c = stands (cuts_of c.args.keys.now) c.args.grid.now c.args.field.now 0 c.new-store.result c.raise_tree.new.store _ c.requires.grid c.requires.one (ap (λ s. s.tree) c.new-store.ensures) c.in_ok-raise_tree.ensures.raised
