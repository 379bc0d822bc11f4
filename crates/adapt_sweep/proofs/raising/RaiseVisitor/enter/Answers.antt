use Rattle.adapt_sweep.specs.Raises.{source_of}
use Rattle.adapt_sweep.proofs.Raised.{raised_keeps, raised_may}
use Rattle.adapt_sweep.proofs.raising.RaiseVisitor.enter.Goals as goal

pub returns-clause-keeps : goal.returns-clause-keeps
returns-clause-keeps c = raised_keeps (source_of c.args.self.now) c.args.cell.now c.raise_view.new.cell c.raise_view.ensures

pub returns-clause-slots : goal.returns-clause-slots
returns-clause-slots c = raised_may (source_of c.args.self.now) c.args.cell.now c.raise_view.new.cell c.requires c.raise_view.ensures
