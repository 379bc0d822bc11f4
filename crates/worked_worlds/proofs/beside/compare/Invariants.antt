use Rattle.peano_keys.specs.Grid.{IsGrid}
use Rattle.volume_solver.specs.Any.{parts_in}
use Rattle.spacetree.specs.Fields.{IsFieldOn}
use Rattle.worked_worlds.proofs.beside.compare.Given as goal

abbrev pub invariant-loop-step : goal.invariant-loop-step
invariant-loop-step g l = IsGrid 12 l.grid × IsFieldOn (parts_in l.plan.solver) l.grid l.field
