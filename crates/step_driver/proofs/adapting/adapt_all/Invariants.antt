use Rattle.std.proofs.Common.{◌≡◌, ◌++◌}
use Rattle.peano_curve.specs.declared.order.Direction.{Direction}
use Rattle.curve_cuts.specs.Keys.{cuts_of}
use Rattle.step_phases.specs.Change.{Change}
use Rattle.step_world.specs.Notes.{by_trees, note_adapted}
use Rattle.step_driver.specs.Notes.{sizes_of}
use Rattle.step_driver.specs.Adapting.{AllCanAdapt}
use Rattle.step_driver.proofs.adapting.adapt_all.Given as goal

abbrev pub invariant-loop-tree : goal.invariant-loop-tree
invariant-loop-tree g l = (dir : Direction) (w : Change) → w.new ≡ g.N.NewGrid.grid → AllCanAdapt (cuts_of l.keys) dir w l.fn.stores.items →
    l.notes.items ≡ l.initial.notes.items ++ by_trees l.tree-index (note_adapted (sizes_of (cuts_of l.keys)) l.step w.old w.new)
