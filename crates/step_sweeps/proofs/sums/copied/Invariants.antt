use Rattle.std.proofs.Common.{◌≡◌, take}
use Rattle.step_sweeps.proofs.sums.copied.Given as goal

abbrev pub invariant-loop-partial : goal.invariant-loop-partial
invariant-loop-partial l = l.copy ≡ take l.partial-index l.items
