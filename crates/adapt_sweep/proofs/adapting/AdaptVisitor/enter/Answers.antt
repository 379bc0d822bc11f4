use Rattle.curve_cuts.specs.Keys.{cuts_of}
use Rattle.adapt_sweep.proofs.Adapted.{adapts_may}
use Rattle.adapt_sweep.proofs.adapting.AdaptVisitor.enter.Goals as goal

pub returns-clause-slots : goal.returns-clause-slots
returns-clause-slots g c = adapts_may (cuts_of c.args.self.now.keys.now) c.args.self.now.tree g.N.NewGrid.grid c.args.cell.now c.adapt.new.cell c.args.self.now.same c.requires c.adapt.ensures
