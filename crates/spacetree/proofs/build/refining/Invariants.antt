use Rattle.std.proofs.Common.{◌≡◌, take, filter}
use Rattle.spacetree.specs.Opening.{zone_refines}
use Rattle.spacetree.proofs.build.refining.Given as goal

abbrev pub invariant-loop-zone : goal.invariant-loop-zone
invariant-loop-zone l = l.found.items ≡ filter (zone_refines l.dim l.key) (take l.zone-index l.zones)
