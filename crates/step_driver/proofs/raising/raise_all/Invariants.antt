use Rattle.std.proofs.Common.{◌≡◌}
use Rattle.curve_cuts.specs.Keys.{cuts_of}
use Rattle.step_world.specs.Notes.{by_trees, note_raised}
use Rattle.step_driver.specs.Notes.{sizes_of}
use Rattle.step_driver.proofs.raising.raise_all.Given as goal

abbrev pub invariant-loop-tree : goal.invariant-loop-tree
invariant-loop-tree g l = l.notes.items ≡ by_trees l.tree-index (note_raised (sizes_of (cuts_of l.keys)) l.step l.grid)
