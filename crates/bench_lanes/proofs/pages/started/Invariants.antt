use Rattle.std.proofs.Common.{◌≡◌}
use Rattle.peano_keys.specs.declared.dim.Dim.TheVariants.{Two}
use Rattle.bench_lanes.proofs.pages.started.Given as goal

abbrev pub invariant-loop-k : goal.invariant-loop-k
invariant-loop-k l = l.lanes.dim ≡ Two
