use Rattle.std.proofs.Common.{◌≡◌, ◌<◌, ◌-◌, ◌^◌, length}
use Rattle.step_driver.proofs.EachTree.{Each}
use Rattle.step_driver.proofs.tasking.desk_sizes.Given as goal

abbrev pub invariant-loop-store : goal.invariant-loop-store
invariant-loop-store l = (length l.sizes.items ≡ l.store-index) × Each (λ k n. n < 2 ^ 32 - 1) l.sizes.items
