use Rattle.peano_keys.specs.Grid.{Spacetree}
use Rattle.peano_keys.specs.Field.{States}
use Rattle.peano_curve.specs.declared.order.Direction.{Direction}
use Rattle.curve_cuts.specs.Keys.{cuts_of}
use Rattle.step_driver.specs.Computing.{AllStandOn, ToldFirst}
use Rattle.step_driver.proofs.computing.compute_all.Given as goal

abbrev pub invariant-loop-tree : goal.invariant-loop-tree
invariant-loop-tree g l = (dir : Direction) (grid : Spacetree) (f : States) → AllStandOn (cuts_of l.keys) (g.S.Solver.parts_of l.solver) dir grid f l.fn.stores.items →
    ToldFirst (record { parts = g.S.Solver.parts_of l.solver; updated = g.S.Solver.updated l.solver; marked = g.S.Solver.marked l.solver }) (cuts_of l.keys) grid f l.step l.tree-index l.initial.notes.items l.notes.items l.failing
