use Rattle.std.proofs.Common.{◌≡◌}
use Rattle.peano_keys.specs.declared.dim.Dim.TheVariants.{Two}
use Rattle.bench_lanes.proofs.time_shuttle.Given as goal

abbrev pub invariant-loop-i : goal.invariant-loop-i
invariant-loop-i g l = l.lanes.dim ≡ Two
