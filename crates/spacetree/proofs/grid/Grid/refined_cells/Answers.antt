use Rattle.std.proofs.Common.{subst}
use Rattle.spacetree.specs.Counts.{IsServedGrid}
use Rattle.spacetree.proofs.grid.Grid.refined_cells.Goals as goal

pub returns-clause-served : goal.returns-clause-served
returns-clause-served c = subst IsServedGrid c.self.view_is c.self.invariant
