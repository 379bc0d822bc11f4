use Rattle.peano_keys.specs.Field.{States}
use Rattle.peano_curve.specs.declared.order.Direction.{Direction}
use Rattle.curve_cuts.specs.Keys.{cuts_of}
use Rattle.step_phases.specs.Change.{Change}
use Rattle.step_driver.specs.Finishing.{AllMarked, CountedFirst}
use Rattle.step_driver.proofs.finishing.finish_all.Given as goal

abbrev pub invariant-loop-tree : goal.invariant-loop-tree
invariant-loop-tree g l = (dir : Direction) (w : Change) (f : States) → AllMarked (record { parts = g.S.Solver.parts_of l.solver; updated = g.S.Solver.updated l.solver; marked = g.S.Solver.marked l.solver }) (cuts_of l.keys) dir w f l.fn.stores.items →
    CountedFirst (cuts_of l.keys) w l.step l.tree-index l.initial.notes.items l.notes.items l.found
