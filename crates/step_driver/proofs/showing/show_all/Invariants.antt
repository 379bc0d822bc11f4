use Rattle.std.proofs.Common.{ℕ}
use Rattle.peano_keys.specs.Grid.{Spacetree}
use Rattle.peano_keys.specs.Field.{States}
use Rattle.peano_curve.specs.declared.order.Direction.{Direction}
use Rattle.curve_cuts.specs.Keys.{cuts_of}
use Rattle.step_driver.specs.Computing.{AllStandOn}
use Rattle.step_driver.specs.Showing.{GatheredFirst}
use Rattle.step_driver.proofs.showing.show_all.Given as goal

abbrev pub invariant-loop-tree : goal.invariant-loop-tree
invariant-loop-tree g l = (parts : ℕ) (dir : Direction) (grid : Spacetree) (f : States) → AllStandOn (cuts_of l.keys) parts dir grid f l.fn.stores.items →
    GatheredFirst (cuts_of l.keys) grid f l.step l.fn.kind l.tree-index l.initial.notes.items l.notes.items l.rows.items l.traffic.items
