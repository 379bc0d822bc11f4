use Rattle.std.proofs.Common.{ℕ, ◌<◌, get_or}
use Rattle.spacetree.specs.declared.shape.Zone.{Zone}
use Rattle.spacetree.specs.Build.{IsZone}
use Rattle.spacetree.proofs.build_tests.are_zones.Given as goal

abbrev pub invariant-loop-zone : goal.invariant-loop-zone
invariant-loop-zone l = (k : ℕ) (d : Zone) → k < l.zone-index → IsZone l.dim l.depth (get_or l.zones k d)
