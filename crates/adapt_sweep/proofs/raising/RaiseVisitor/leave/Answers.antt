use Rattle.adapt_sweep.proofs.Views.{keeps_itself}
use Rattle.adapt_sweep.proofs.Raised.{leaves_all}
use Rattle.adapt_sweep.proofs.raising.RaiseVisitor.leave.Goals as goal

pub returns-clause-keeps : goal.returns-clause-keeps
returns-clause-keeps c = keeps_itself c.args.arg2.now

pub returns-clause-slots : goal.returns-clause-slots
returns-clause-slots c = leaves_all c.args.self.now.grid.now c.args.arg2.now
