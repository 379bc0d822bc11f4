use Rattle.std.proofs.Common.{◌+◌, ◌-◌, ◌*◌}
use Rattle.peano_keys.specs.Dim.{children}
use Rattle.peano_curve.specs.Order.{place_along}
use Rattle.task_core.proofs.visits.Tour.+tour.Given as goal

abbrev pub decreases-add_cell : goal.decreases-add_cell
decreases-add_cell l = 64 * (13 - l.cell.level)

abbrev pub decreases-add_below : goal.decreases-add_below
decreases-add_below l = 64 * (13 - l.cell.level) - 1

abbrev pub decreases-add_from : goal.decreases-add_from
decreases-add_from l = 64 * (13 - l.child.level) + 1 + (children l.self.now.grid.now.dim - place_along l.self.now.dir l.self.now.grid.now.dim l.child)
