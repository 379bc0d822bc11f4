use Rattle.step_driver.specs.Along.{HasFirst}
use Rattle.step_driver.proofs.along.leaves_by_start.Given as goal

abbrev pub invariant-loop-leaf : goal.invariant-loop-leaf
invariant-loop-leaf l = HasFirst l.depth l.grid l.leaf-items l.leaf-index l.starts
